use Rattle.std.proofs.Common.{◌∙◌, ◌+◌, ℕ, Bool, length, subst, sym}
use Rattle.cml_explore.specs.Merges.{IsAmidRound, HasJoined}
use Rattle.cml_explore.proofs.share.join_all.Goals as goal

pub join_next-requires-clause-amid : goal.join_next-requires-clause-amid
join_next-requires-clause-amid c =
    subst (λ (n : ℕ). IsAmidRound c.args.program.now c.args.asked.now c.args.so_far.now c.args.round n c.loop-number.number c.loop-number.made)
    (sym c.loop-number.invariant.long) c.loop-number.invariant.amid

pub loop-number-preserved : goal.loop-number-preserved
loop-number-preserved c =
    let joined = subst (λ (n : ℕ). HasJoined c.args.program.now c.args.asked.now c.args.so_far.now c.args.round n (c.loop-number.number + 1) c.in_ok-stopped.stopped c.join_next.new.made)
    c.loop-number.invariant.long c.in_ok-stopped.ensures.joined in
    record {
      long = c.join_next.ensures.long ∙ c.loop-number.invariant.long;
      placed = c.join_next.ensures.placed;
      amid = subst (λ (b : Bool). HasJoined c.args.program.now c.args.asked.now c.args.so_far.now c.args.round (length c.args.places.now.items) (c.loop-number.number + 1) b c.join_next.new.made)
          c.if-stopped.false joined;
    }

pub returns-then-stopped : goal.returns-then-stopped
returns-then-stopped c =
    let joined = subst (λ (n : ℕ). HasJoined c.args.program.now c.args.asked.now c.args.so_far.now c.args.round n (c.loop-number.number + 1) c.in_ok-stopped.stopped c.join_next.new.made)
    c.loop-number.invariant.long c.in_ok-stopped.ensures.joined in
    subst (λ (b : Bool). HasJoined c.args.program.now c.args.asked.now c.args.so_far.now c.args.round (length c.args.places.now.items) (c.loop-number.number + 1) b c.join_next.new.made)
    c.if-stopped.true joined
