use Rattle.std.proofs.Common.{◌≡◌, not, cond, ap, sym, subst, ◌∙◌}
use Rattle.cml_scan.specs.declared.object.Light.{Light}
use Rattle.cml_scan.specs.Table.{same_light}
use Rattle.cml_index.specs.declared.slot.Slot.TheVariants.{Waiters}
use Rattle.cml_index.specs.Told.{PlainFlags, all_told, flag_of, lit_in}
use Rattle.cml_index.specs.Posts as spec
use Rattle.cml_index.proofs.Flagged.{told_is, named_is, keeps}
use Rattle.cml_index.proofs.flags.flip.Goals as goal

was : (c : goal.After-flip) → (m : Light) → lit_in (flag_of c.flags.inside.told m) ≡ spec.told c.args.flags.now.entries m
was c m = sym (told_is c.flags.inside.told m) ∙ ap (λ (v : PlainFlags). spec.told v.entries m) c.flags.view_is

pub flip-requires : goal.flip-requires
flip-requires c on = sym (named_is c.flags.inside.told c.args.light) ∙ ap (λ (v : PlainFlags). spec.is_named v.entries (Waiters c.args.light)) c.flags.view_is ∙ c.requires on

pub returns-clause-told : goal.returns-clause-told
returns-clause-told c m = told_is c.flip.new.self m ∙ c.flip.ensures.told m ∙ ap (cond (same_light c.args.light m) c.args.lit) (was c m)

pub returns-clause-changed : goal.returns-clause-changed
returns-clause-changed c = c.flip.ensures.changed ∙ ap (λ b. cond c.args.lit (not b) b) (was c c.args.light)

pub returns-clause-kept : goal.returns-clause-kept
returns-clause-kept c = subst (λ (v : PlainFlags). spec.KeepsPlaces v.entries (all_told c.flip.new.self)) c.flags.view_is (keeps c.flags.inside.told c.flip.new.self c.flip.ensures.kept)
