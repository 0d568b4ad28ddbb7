use Rattle.scale.specs.RangeFacts.{all_apart}
use Rattle.scale.proofs.ranges.ranges_apart.Goals as goal

pub returns : goal.returns
returns c = all_apart
