use Rattle.std.proofs.Common.{refl}
use Rattle.worked.proofs.Shown.{fifteen, two_hundred_clear, two_hundred_first, two_map_sectors, common_factor}
use Rattle.worked.proofs.cases_hold.Goals as goal

pub returns-clause-hold : goal.returns-clause-hold
returns-clause-hold c =
    record {
      fifteen_sectors = fifteen;
      two_hundred_map = λ m sector name l. l.identification.map_bytes_are;
      two_hundred_root = λ m sector name l. l.identification.root_is;
      two_hundred_clear = two_hundred_clear;
      two_hundred_first = two_hundred_first;
      two_map_sectors = two_map_sectors;
      interleaved = refl;
      common_factor = common_factor;
    }
