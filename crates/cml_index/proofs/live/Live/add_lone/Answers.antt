use Rattle.std.proofs.Common.{◌∷◌, [], refl, ap, sym, ◌∙◌}
use Rattle.cml_index.specs.Slots.{slot_in}
use Rattle.cml_index.specs.Live as spec
use Rattle.cml_index.proofs.Alone.{or_none}
use Rattle.cml_index.proofs.Kept.{add_more, counted_more, came_counted}
use Rattle.cml_index.proofs.live.Live.add_lone.Goals as goal

pub add_at-requires : goal.add_at-requires
add_at-requires c n e = c.requires.there n (or_none (spec.has_side n (slot_in c.args.wait.now)) ∙ ap (spec.has_side n) (sym c.slot.ensures) ∙ e)

pub returns-clause-live : goal.returns-clause-live
returns-clause-live c n = add_more (spec.has_side n c.slot.result) (spec.have_side n []) (spec.have_side n (slot_in c.args.wait.now ∷ []))
    (spec.is_in c.args.self.now n) (spec.is_in c.add_at.new.self n) (spec.is_live c.args.lanes.now n)
    (ap (λ s. spec.have_side n (s ∷ [])) (sym c.slot.ensures)) refl (c.add_at.ensures.here n) (c.add_at.ensures.elsewhere n) (c.requires.was n) (c.requires.under n)

pub returns-clause-counted : goal.returns-clause-counted
returns-clause-counted c n = counted_more (spec.has_side n c.slot.result) (spec.have_side n []) (spec.have_side n (slot_in c.args.wait.now ∷ []))
    (ap (λ s. spec.have_side n (s ∷ [])) (sym c.slot.ensures)) refl
    (λ here_ on two. came_counted (spec.is_in c.args.self.now n) (spec.is_in c.add_at.new.self n)
    (spec.is_live c.args.lanes.now n) (c.add_at.ensures.here n here_) (c.requires.under n) on
    (λ live_. c.add_at.ensures.heads n here_ live_ on two))
    (λ off left on two. c.add_at.ensures.beside n off ∙ c.requires.counted n left (sym (c.add_at.ensures.elsewhere n off) ∙ on) two)
