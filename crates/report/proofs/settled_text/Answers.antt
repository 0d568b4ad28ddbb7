use Rattle.std.proofs.Common.{rules, append_assoc, ◌∙◌}
use Rattle.report.proofs.settled_text.Goals as goal

-- the text is that of the line, however its parts are joined
pub returns-in_ok-format-in-Contradiction : goal.returns-in_ok-format-in-Contradiction
returns-in_ok-format-in-Contradiction g c =
    (_, _, c.settle.ensures, rw c.in-Contradiction.is (c.in_ok-format-in-Contradiction.ensures.ok ∙ simp append_assoc))

pub returns-in_ok-format-in-Refused : goal.returns-in_ok-format-in-Refused
returns-in_ok-format-in-Refused g c =
    (_, _, c.settle.ensures, rw c.in-Refused.is (c.in_ok-format-in-Refused.ensures.ok ∙ simp append_assoc (search rules)))
