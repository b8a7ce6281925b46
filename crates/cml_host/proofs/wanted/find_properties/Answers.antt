use Rattle.std.proofs.Common.{rules, ◌≡◌, ◌∙◌, ◌++◌, Bor, Err, List, ℕ, map, option_map, inl, inr, ap, subst}
use Rattle.cml_properties.specs.declared.kind.PropertyKind.TheVariants.{Never, Always, Once, Before}
use Rattle.cml_properties.specs.declared.property.Property.{Property}
use Rattle.cml_host.specs.Refused.{RefusesAs}
use Rattle.cml_host.specs.Wanted.{AreGiven, FileSaysNone, IsNoPattern, IsUnwanted}
use Rattle.cml_host.proofs.RefusedLemmas.{wrong_on}
use Rattle.cml_host.proofs.WantedLemmas.{all_found}
use Rattle.cml_host.proofs.wanted.find_properties.Goals as goal

pub returns-in_err-push_given-clause-err : goal.returns-in_err-push_given-clause-err
returns-in_err-push_given-clause-err g c =
    let options = c.args.options.now in
    let held = g.S.Store.holds c.args.store.now in
    let why = c.in_err-push_given.field-0.0 in
    let is : c.from_residual.result ≡ Err why = search rules in
    wrong_on (IsNoPattern c.args.explains Never (map (λ text. text.now) options.never.items)) (IsUnwanted c.args.explains options held) (λ told status none. inl none)
    c.from_residual.result why is
    (subst (λ (ts : List (Bor (List ℕ))). RefusesAs (IsNoPattern c.args.explains Never (map (λ text. text.now) ts)) why) c.as_slice.ensures.value c.in_err-push_given.ensures.err)

pub returns-in_err-push_given-2-clause-err : goal.returns-in_err-push_given-2-clause-err
returns-in_err-push_given-2-clause-err g c =
    let options = c.args.options.now in
    let held = g.S.Store.holds c.args.store.now in
    let why = c.in_err-push_given-2.field-0.0 in
    let is : c.from_residual-in_err-push_given-2.result ≡ Err why = search rules in
    wrong_on (IsNoPattern c.args.explains Always (map (λ text. text.now) options.always.items)) (IsUnwanted c.args.explains options held) (λ told status none. inr (inl none))
    c.from_residual-in_err-push_given-2.result why is
    (subst (λ (ts : List (Bor (List ℕ))). RefusesAs (IsNoPattern c.args.explains Always (map (λ text. text.now) ts)) why) c.as_slice-2.ensures.value c.in_err-push_given-2.ensures.err)

pub returns-in_err-push_given-3-clause-err : goal.returns-in_err-push_given-3-clause-err
returns-in_err-push_given-3-clause-err g c =
    let options = c.args.options.now in
    let held = g.S.Store.holds c.args.store.now in
    let why = c.in_err-push_given-3.field-0.0 in
    let is : c.from_residual-in_err-push_given-3.result ≡ Err why = search rules in
    wrong_on (IsNoPattern c.args.explains Once (map (λ text. text.now) options.once.items)) (IsUnwanted c.args.explains options held) (λ told status none. inr (inr (inl none)))
    c.from_residual-in_err-push_given-3.result why is
    (subst (λ (ts : List (Bor (List ℕ))). RefusesAs (IsNoPattern c.args.explains Once (map (λ text. text.now) ts)) why) c.as_slice-3.ensures.value c.in_err-push_given-3.ensures.err)

pub returns-in_err-push_given-4-clause-err : goal.returns-in_err-push_given-4-clause-err
returns-in_err-push_given-4-clause-err g c =
    let options = c.args.options.now in
    let held = g.S.Store.holds c.args.store.now in
    let why = c.in_err-push_given-4.field-0.0 in
    let is : c.from_residual-in_err-push_given-4.result ≡ Err why = search rules in
    wrong_on (IsNoPattern c.args.explains Before (map (λ text. text.now) options.before.items)) (IsUnwanted c.args.explains options held) (λ told status none. inr (inr (inr (inl none))))
    c.from_residual-in_err-push_given-4.result why is
    (subst (λ (ts : List (Bor (List ℕ))). RefusesAs (IsNoPattern c.args.explains Before (map (λ text. text.now) ts)) why) c.as_slice-4.ensures.value c.in_err-push_given-4.ensures.err)

pub returns-in_err-push_file-clause-err : goal.returns-in_err-push_file-clause-err
returns-in_err-push_file-clause-err g c =
    let options = c.args.options.now in
    let held = g.S.Store.holds c.args.store.now in
    let why = c.in_err-push_file.field-0.0 in
    let is : c.from_residual-in_err-push_file.result ≡ Err why = search rules in
    wrong_on (FileSaysNone c.args.explains (option_map (λ name. name.now) options.file) held) (IsUnwanted c.args.explains options held) (λ told status none. inr (inr (inr (inr none))))
    c.from_residual-in_err-push_file.result why is c.in_err-push_file.ensures.err

pub returns-clause-ok : goal.returns-clause-ok
returns-clause-ok g c =
    let one = c.in_ok-push_given.ensures.ok in
    let two = c.in_ok-push_given-2.ensures.ok in
    let three = c.in_ok-push_given-3.ensures.ok in
    let four = c.in_ok-push_given-4.ensures.ok in
    let last = c.in_ok-push_file.ensures.ok in
    record {
      never = one.0;
      never_are = subst (λ (ts : List (Bor (List ℕ))). AreGiven Never (map (λ text. text.now) ts) one.0) c.as_slice.ensures.value one.1;
      always = two.0;
      always_are = subst (λ (ts : List (Bor (List ℕ))). AreGiven Always (map (λ text. text.now) ts) two.0) c.as_slice-2.ensures.value two.1;
      once = three.0;
      once_are = subst (λ (ts : List (Bor (List ℕ))). AreGiven Once (map (λ text. text.now) ts) three.0) c.as_slice-3.ensures.value three.1;
      before = four.0;
      before_are = subst (λ (ts : List (Bor (List ℕ))). AreGiven Before (map (λ text. text.now) ts) four.0) c.as_slice-4.ensures.value four.1;
      more = last.0;
      more_are = last.1;
      all = all_found one.0 two.0 three.0 four.0 _ _ _ last.0 _ _ _ _ _ _ _ _
          (one.2 ∙ ap (λ (l : List Property). l ++ one.0) c.new-found.ensures.items) two.2 three.2 four.2 c.in_ok-push_if.ensures c.in_ok-push_if-2.ensures c.in_ok-push_if-3.ensures last.2;
    }
