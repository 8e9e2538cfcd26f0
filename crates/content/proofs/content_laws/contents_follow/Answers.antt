use Rattle.content.proofs.Follows.{content-length, content_written, content-grown, content_shrunk, content_cut, content-kept, content_beside}
use Rattle.content.proofs.content_laws.contents_follow.Goals as goal

pub returns : goal.returns
returns c =
    record {
      length = content-length;
      written = content_written;
      grown = content-grown;
      shrunk = content_shrunk;
      cut = content_cut;
      kept = content-kept;
      beside = content_beside;
    }
