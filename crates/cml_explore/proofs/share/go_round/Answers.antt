use Rattle.std.proofs.Common.{◌∙◌, ℕ, Bool, true, false, length, ap, subst, sym, arith}
use Rattle.std.specs.Prelude.{◌==◌}
use Rattle.cml_explore.specs.Merges.{HasJoined, AreInside}
use Rattle.cml_explore.proofs.ExploreLemmas.{made_so}
use Rattle.cml_explore.proofs.PartLemmas.{round_begins, round_ends}
use Rattle.cml_explore.proofs.share.go_round.Goals as goal

pub join_all-requires-clause-begins : goal.join_all-requires-clause-begins
join_all-requires-clause-begins g c =
    round_begins c.args.program.now c.args.asked.now c.args.so_far.now c.next_round-round.result _ c.in_ok-made.made c.next_round-round.ensures
    (subst (AreInside c.next_round-round.result) (sym c.in_ok-places.ensures.many) c.part_count-count.ensures.inside) c.in_ok-made.ensures

pub returns-then-stopped : goal.returns-then-stopped
returns-then-stopped g c =
    let last : HasJoined c.args.program.now c.args.asked.now c.args.so_far.now c.next_round-round.result (length c.in_ok-places.places.items)
    (length c.in_ok-places.places.items) true c.join_all.new.made =
    subst (λ (b : Bool). HasJoined c.args.program.now c.args.asked.now c.args.so_far.now c.next_round-round.result (length c.in_ok-places.places.items)
    (length c.in_ok-places.places.items) b c.join_all.new.made) c.if-stopped.true c.in_ok-stopped.ensures in
    record { more = last.1; made = last.0 }

pub returns : goal.returns
returns g c =
    let amid : HasJoined c.args.program.now c.args.asked.now c.args.so_far.now c.next_round-round.result (length c.in_ok-places.places.items)
    (length c.in_ok-places.places.items) false c.join_all.new.made =
    subst (λ (b : Bool). HasJoined c.args.program.now c.args.asked.now c.args.so_far.now c.next_round-round.result (length c.in_ok-places.places.items)
    (length c.in_ok-places.places.items) b c.join_all.new.made) c.if-stopped.false c.in_ok-stopped.ensures in
    let many = c.in_ok-places.ensures.many in
    let ends = round_ends c.args.program.now c.args.asked.now c.args.so_far.now c.next_round-round.result (length c.in_ok-places.places.items) c.join_all.new.made amid
    (omega (arith, many)) c.requires.left in
    record {
      more = ends.0;
      made = made_so c.are_all-last.result c.args.program.now c.args.asked.now c.join_all.new.made amid.here ends.1
          (c.are_all-last.ensures ∙ ap (λ n. n == c.args.asked.now.runs) c.runs-so_many.ensures);
    }
