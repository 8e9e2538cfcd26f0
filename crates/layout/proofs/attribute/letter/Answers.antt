use Rattle.std.proofs.Common.{refl, eq-eqb, ne_eqb}
use Rattle.layout.specs.Map.{bit_at}
use Rattle.layout.proofs.attribute.letter.Goals as goal

pub returns-then-attribute-place-eq1 : goal.returns-then-attribute-place-eq1
unfolding bit_at
returns-then-attribute-place-eq1 c = rw (eq-eqb _ 1 c.if-attribute-place-eq1.true) refl

pub returns-else-attribute-place-eq1 : goal.returns-else-attribute-place-eq1
unfolding bit_at
returns-else-attribute-place-eq1 c = rw (ne_eqb _ 1 c.if-attribute-place-eq1.false) refl
