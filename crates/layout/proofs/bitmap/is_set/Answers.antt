use Rattle.std.proofs.Common.{refl}
use Rattle.layout.specs.Map.{bit_at}
use Rattle.layout.proofs.bitmap.is_set.Goals as goal

pub returns : goal.returns
unfolding bit_at
returns c = refl
