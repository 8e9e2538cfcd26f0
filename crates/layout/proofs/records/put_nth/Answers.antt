use Rattle.layout.proofs.Rows.{put_record}
use Rattle.layout.proofs.records.put_nth.Goals as goal

pub returns-clause-laid : goal.returns-clause-laid
returns-clause-laid g c =
    let v = c.args.value.now in
    put_record c.args.k g.R.Record.WIDTH c.WIDTH.result c.WIDTH-2.result c.args.table.now _ (g.R.Record.bytes_of v) c.WIDTH.ensures c.WIDTH-2.ensures (g.met.R.Record.wide v c.requires.1) c.write.ensures
