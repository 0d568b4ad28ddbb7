use Rattle.std.proofs.Common.{rules, append_assoc, ◌∙◌}
use Rattle.report.proofs.told.Goals as goal

-- the text is that of the line, however its parts are joined
pub returns-in_ok-format-in-Err : goal.returns-in_ok-format-in-Err
returns-in_ok-format-in-Err g c =
    (_, _, c.read.ensures.does, rw c.in-Err.is (c.in_ok-format-in-Err.ensures.ok ∙ simp append_assoc (search rules)))
