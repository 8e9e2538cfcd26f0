use Rattle.content.proofs.Follows.{never_refused}
use Rattle.content.proofs.content_laws.good_sectors_serve.Goals as goal

pub returns : goal.returns
returns c = never_refused
