use Rattle.std.proofs.Common.{◌≡◌, ◌<◌, ◌≤◌, ◌+◌, ◌-◌, ℕ, get_or, length, arith, rules, sym, ◌∙◌}
use Rattle.std.proofs.lemmas.List.{drop_more}
use Rattle.cml_value.specs.declared.number.PortId.{PortId}
use Rattle.cml_objects.proofs.PostLemmas.{pop_replicate, full_same}
use Rattle.cml_objects.proofs.delivery.feed_all.Goals as goal

pub loop-id-preserved : goal.loop-id-preserved
loop-id-preserved c =
    let ids = c.args.ids.now in
    let i = c.loop-id.id-index in
    let none : PortId = record { 0 = 0 } in
    let h = pop_replicate (length ids - i) c.args.message.now c.pop.new.self.items c.in-Some.copy (sym c.loop-id.invariant.copied ∙ c.in-Some.ensures.items) in
    let apart : (k : ℕ) → i + 1 ≤ k → k < length ids → (get_or ids k none).0 ≡ (get_or ids i none).0
    → ⊥ = λ k a b e.
    (let l : (get_or ids i none).0 < (get_or ids k none).0 = c.requires.once i k none (omega arith) b in omega
    arith) in
    record {
      left = rw (c.feed_one.ensures.unread, h.1) (rw (drop_more ids i none c.loop-id-test.true) at c.loop-id.invariant.left);
      copied = (let e : length ids - (i + 1) ≡ length ids - i - 1 = omega arith in rw e h.0);
      waits = search rules;
      spare = search rules;
      len = search rules;
      room = λ k a b. rw (c.feed_one.ensures.others (get_or ids k none).0 (apart k a b)) (c.loop-id.invariant.room k (omega arith) b);
      open_left = λ k a b. full_same c.loop-id.ports.objects c.feed_one.new.ports.objects (get_or ids k none).0
          (c.feed_one.ensures.others (get_or ids k none).0 (apart k a b))
          ∙ c.loop-id.invariant.open_left k (omega arith) b;
    }
