use Rattle.std.proofs.Common.{◌∙◌, ap, sym}
use Rattle.std.proofs.lemmas.Slice.Eq.{bytes_eq-Decides}
use Rattle.cml_check.specs.Names.{with_name}
use Rattle.cml_check.proofs.NameLemmas.{kept-insert_key, distinct-with_name, name_at-kept, kept}
use Rattle.cml_check.proofs.names.Names.declare.Goals as goal

pub invariant_of-self-2 : goal.invariant_of-self-2
invariant_of-self-2 c =
    rw (c.in_ok-slot.ensures.keys, kept-insert_key c.self.inside.set.keys c.args.name) (distinct-with_name (kept c.self.inside.set.keys) c.args.name.now c.self.invariant)

pub returns-clause-names : goal.returns-clause-names
returns-clause-names c =
    ap kept c.in_ok-slot.ensures.keys ∙ kept-insert_key c.self.inside.set.keys c.args.name ∙ ap (λ names. with_name names c.args.name.now) c.self.view_is

pub returns-clause-named : goal.returns-clause-named
returns-clause-named c =
    let stored = c.in_ok-slot.ensures.stored in
    name_at-kept c.insert_full.new.self.keys c.in_ok-slot.slot stored.0 stored.1 ∙ sym ((bytes_eq-Decides c.args.name.now stored.0.now).0 stored.2)
