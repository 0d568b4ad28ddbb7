use Rattle.book.specs.Answering.{answers, answers_none}
use Rattle.book.proofs.steps.told.Goals as goal

pub returns-then-asks : goal.returns-then-asks
returns-then-asks g c = answers _ _ _ _ _ _ _ (let a = c.if-asks.ensures in let n = c.counted.ensures in cc) c.met.ensures

pub returns-else-asks : goal.returns-else-asks
returns-else-asks g c =
    answers_none _ _ _ _ _ _ _ (let a = c.if-asks.ensures in let n = c.counted.ensures in cc) c.loose.ensures
