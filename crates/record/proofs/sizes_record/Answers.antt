use Rattle.std.proofs.Common.{refl, arith}
use Rattle.record.proofs.Frames.{none_has, only_has, others_have}
use Rattle.record.proofs.sizes_record.Goals as goal

pub returns-in_default : goal.returns-in_default
returns-in_default c = ((omega arith, omega arith), none_has c.args.bytes.now _ c.as_chunks.ensures.front c.in_default.ensures)

pub returns-then-no_sizes : goal.returns-then-no_sizes
returns-then-no_sizes c =
    ((omega arith, omega arith), only_has c.args.bytes.now _ c.as_chunks.ensures.front c.in-Some.at c.in-Some.ensures (c.if-no_sizes.ensures.0 refl))

pub returns-else-no_sizes : goal.returns-else-no_sizes
returns-else-no_sizes c =
    ((omega arith, omega arith), others_have c.args.bytes.now _ c.as_chunks.ensures.front c.in-Some.at c.in-Some.ensures (λ none. absurd (cc (c.if-no_sizes.ensures.1 none))))
