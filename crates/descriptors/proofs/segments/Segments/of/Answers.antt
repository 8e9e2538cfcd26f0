use Rattle.descriptors.proofs.Bounds.{length-used, used_storable, sum_small}
use Rattle.descriptors.proofs.segments.Segments.of.Goals as goal

pub returns-clause-storable : goal.returns-clause-storable
returns-clause-storable c = used_storable c.args.descriptor.now c.fits-descriptor 0 48

pub returns-clause-few : goal.returns-clause-few
returns-clause-few c = length-used c.args.descriptor.now 0 48

pub returns-clause-small : goal.returns-clause-small
returns-clause-small c = sum_small _ (returns-clause-few c) (returns-clause-storable c)
