use Rattle.std.proofs.Common.{arith, refl, length, ◌<◌}
use Rattle.cml_hub.proofs.MarkLemmas.{got_is}
use Rattle.cml_hub.proofs.settle.resume.Goals as goal

pub returns : goal.returns
returns c =
    let ms = c.args.machines.now.items in
    let t = c.resume.inside.tid.0 in
    let lt : t < length ms = omega arith in
    rw (← c.resume.view_is)
    (record {
      before = c.index_mut.result.now;
      after = c.take_commit.new.self;
      was = got_is ms t c.index_mut.result.now c.index_mut.result.now lt c.index_mut.ensures.value;
      is = refl;
      answered = record { thread = c.take_commit.ensures.thread; meant = c.take_commit.ensures.meant; fits = c.take_commit.ensures.fits; awaits = c.take_commit.ensures.awaits };
    })
