-- Where no use of an argument is at fault, each row of the matches has a value, its values pass, and they are read as they are written.
use Rattle.std.proofs.Common.{◌≡◌, ◌∙◌, ◌&&◌, ◌||◌, ◌==◌, ap₂, Bool, cond, not, true, false, refl, sym, subst, List, [], ◌∷◌, ◌++◌, length, Option, Some, None, true≢false}
use Rattle.std.specs.Prelude.{nat_lt, ⊤}
use Rattle.std.specs.Option.{option_map_or}
use Rattle.std.specs.List.{find, fold, list_all}
use Rattle.std.specs.Str.{bytes_eq}
use Rattle.std.proofs.lemmas.List.Folds.{list_all-append}
use Rattle.std.proofs.lemmas.Slice.Eq.{bytes_eq-Decides}
use Rattle.clap.specs.Words.{Kinds}
use Rattle.clap.specs.Facts.{parser_of_value, unwrap_or_range}
use Rattle.clap.specs.Faults.{action_fault, react_fault, set_fault, settle_fault, use_fault}
use Rattle.clap.specs.Kinds.{or_else, range_kinds, values_kinds}
use Rattle.clap.specs.Takes.{value_passes}
use Rattle.clap.specs.Values.{is_request, refused_kind}
use Rattle.clap.specs.ValueTests.{accepts}
use Rattle.clap.specs.Walk.{Held, Row, Rule, Text, action_of, arg_by_id, at_row, default_rows, has_row, is_empty}
use Rattle.clap.specs.Walk.{more_values, most_values, reacted, reading_by, settled, settled_rows, used, used_as}
use Rattle.clap.specs.Walk.{used_by_id, values_or_missing, with_default, with_values, without}
use Rattle.clap.specs.declared.builder.action.ArgAction.{ArgAction}
use Rattle.clap.specs.declared.builder.action.ArgAction.TheVariants as action
use Rattle.clap.specs.declared.builder.value_parser.Reading.{Reading}
use Rattle.clap.specs.declared.builder.value_parser.Reading.TheVariants.{AsWritten}
use Rattle.clap.specs.declared.builder.value_parser.ValueParser.{ValueParser}
use Rattle.clap.specs.declared.error.kind.ErrorKind.TheVariants.{InvalidValue}
use Rattle.clap.specs.declared.parser.matches.ValueSource.{ValueSource}
use Rattle.clap.specs.declared.parser.matches.ValueSource.TheVariants.{CommandLine, DefaultValue}

-- where neither of two steps fails, the first does not, and the second does not
pub neither : (a b : Kinds) → or_else a b ≡ [] → (a ≡ []) × (b ≡ [])
neither [] b none = (refl, none)
neither (k ∷ ks) b none = cc

-- each element is such a one
abbrev pub Each : {X : Type 0} → (X → Type 0) → List X → Type 0
Each P [] = ⊤
Each P (x ∷ xs) = P x × Each P xs

-- so is what is found
pub found_each : {X : Type 0} (P : X → Type 0) (test : X → Bool) (xs : List X) (x : X) → Each P xs → find test xs ≡ Some x → P x
found_each P test [] x all found = cc
found_each P test (y ∷ ys) x all found = go (test y) found (found_each P test ys x all.1)
  where
    go : (b : Bool) → cond b (Some y) (find test ys) ≡ Some x → (find test ys ≡ Some x → P x) → P x
    go true here rest =
        let same : y ≡ x = cc in
        subst P same all.0
    go false there rest = rest there

-- ---- rules

-- a use sets the argument, in place of what it had or after it
abbrev pub is_set : ArgAction → Bool
is_set action.Set = true
is_set action.SetTrue = true
is_set action.Append = true
is_set _ = false

-- a use has a value, or another that stands for none
abbrev pub fills_in : Rule → Bool
fills_in a = nat_lt 0 (unwrap_or_range a.range).start_inclusive || not (is_empty a.missing)

-- an argument that its id finds, with a default that passes, if any: each use ends the parse, or sets it to a value that is read as it is
-- written
pub record IsPlainRule (c : List Rule) (a : Rule) : Type 0 where
  pub own : arg_by_id c a.id ≡ Some a
  pub sets : (is_set (action_of a) || is_request (action_of a)) ≡ true
  pub fills : (is_request (action_of a) || fills_in a) ≡ true
  pub reading : reading_by a ≡ AsWritten
  pub defaults : list_all (value_passes a) a.defaults ≡ true

-- ---- rows

abbrev pub HasValue : List Text → Type 0
HasValue [] = ⊥
HasValue (v ∷ vs) = ⊤

-- the value passes the parser of the argument of this id
abbrev pub passes : List Rule → Text → Text → Bool
passes c id value = option_map_or (λ a. value_passes a value) (arg_by_id c id) true

abbrev pub IsFit : List Rule → Row → Type 0
IsFit c r = HasValue r.values × (r.reading ≡ AsWritten) × (list_all (passes c r.id) r.values ≡ true)

values_joined : (vs ws : List Text) → HasValue ws → HasValue (vs ++ ws)
values_joined [] ws some = some
values_joined (v ∷ vs) ws some = tt

joined : {X : Type 0} (P : X → Type 0) (xs ys : List X) → Each P xs → Each P ys → Each P (xs ++ ys)
joined P [] ys p q = q
joined P (x ∷ xs) ys p q = (p.0, joined P xs ys p.1 q)

module _ (c : List Rule) where
  at_row_fit : (id : Text) (change : Row → List Row) (missing rows : List Row) → ((r : Row) → r.id ≡ id → IsFit c r → Each (IsFit c) (change r)) → Each (IsFit c) missing
      → Each (IsFit c) rows → Each (IsFit c) (at_row id change missing rows)
  at_row_fit id change missing [] changed last fit = last
  at_row_fit id change missing (r ∷ rs) changed last fit = go (bytes_eq r.id id) refl (at_row_fit id change missing rs changed last fit.1)
    where
      go : (b : Bool) → bytes_eq r.id id ≡ b → Each (IsFit c) (at_row id change missing rs) → Each (IsFit c) (cond b (change r ++ rs) (r ∷ at_row id change missing rs))
      go true same rest = joined (IsFit c) (change r) rs (changed r ((bytes_eq-Decides r.id id).0 same) fit.0) fit.1
      go false same rest = (fit.0, rest)

  without_fit : (id : Text) (rows : List Row) → Each (IsFit c) rows → Each (IsFit c) (without id rows)
  without_fit id rows fit = at_row_fit id (λ r. []) [] rows (λ r same here. tt) tt fit

  with_values_fit : (id : Text) (how : Reading) (s : ValueSource) (values : List Text) (rows : List Row) → HasValue values → how ≡ AsWritten
      → list_all (passes c id) values ≡ true → Each (IsFit c) rows → Each (IsFit c) (with_values id how s values rows)
  with_values_fit id how s values rows some plain pass fit = at_row_fit id (more_values s values) _ rows more ((some, plain, pass), tt) fit
    where
      more : (r : Row) → r.id ≡ id → IsFit c r → Each (IsFit c) (more_values s values r)
      more r same here =
          let mine : list_all (passes c r.id) values ≡ true = rw same pass in
          ((values_joined r.values values some, here.1, list_all-append (passes c r.id) r.values values ∙ ap₂ (λ x y. x && y) here.2 mine), tt)

-- ---- one use of an argument

values_pass : (ignore_case : Bool) (p : ValueParser) (values : List Text) → values_kinds ignore_case p values ≡ [] → list_all (accepts ignore_case p) values ≡ true
values_pass ignore_case p [] none = refl
values_pass ignore_case p (v ∷ vs) none =
    let parts = neither _ _ none in
    ap₂ (λ x y. x && y) (one (accepts ignore_case p v) parts.0) (values_pass ignore_case p vs parts.1)
  where
    one : (b : Bool) → cond b [] (refused_kind p ∷ []) ≡ [] → b ≡ true
    one true none = refl
    one false none = cc

gives_value : (a : Rule) (values : List Text) → (is_request (action_of a) || fills_in a) ≡ true
    → range_kinds (unwrap_or_range a.range).start_inclusive (most_values a) (length values) ≡ [] → is_request (action_of a) ≡ false → HasValue (values_or_missing a values)
gives_value a (v ∷ vs) fills enough plain = tt
gives_value a [] fills enough plain = go (nat_lt 0 (unwrap_or_range a.range).start_inclusive) a.missing _ enough (rw plain at fills)
  where
    go : (b : Bool) (missing : List Text) (rest : Kinds) → cond (b && (0 == 0)) (InvalidValue ∷ []) rest ≡ [] → (b || not (is_empty missing)) ≡ true → HasValue missing
    go true missing rest bad some = cc
    go false [] rest fine some = absurd (true≢false (sym some))
    go false (v ∷ vs) rest fine some = tt

-- values that pass the parser of an argument pass by its id
by_own_id : (c : List Rule) (a : Rule) (values : List Text) → arg_by_id c a.id ≡ Some a → list_all (value_passes a) values ≡ true → list_all (passes c a.id) values ≡ true
by_own_id c a values own pass = subst (λ (o : Option Rule). list_all (λ v. option_map_or (λ b. value_passes b v) o true) values ≡ true) (sym own) pass

module _ (c : List Rule) where
  set_fit : (again : Bool) (a : Rule) (values : List Text) (rows : List Row) → reading_by a ≡ AsWritten → arg_by_id c a.id ≡ Some a → HasValue values
      → set_fault again a values rows ≡ [] → Each (IsFit c) rows → Each (IsFit c) (with_values a.id (reading_by a) CommandLine values (without a.id rows))
  set_fit again a values rows plain own some none fit =
      let pass : list_all (value_passes a) values ≡ true = values_pass a.ignore_case (parser_of_value a.parser) values (neither _ _ none).1 in
      with_values_fit c a.id (reading_by a) CommandLine values (without a.id rows) some plain (by_own_id c a values own pass) (without_fit c a.id rows fit)

  used_as_fit : (x : ArgAction) (again : Bool) (a : Rule) (values : List Text) (rows : List Row) → (is_set x || is_request x) ≡ true → reading_by a ≡ AsWritten
      → arg_by_id c a.id ≡ Some a → (is_request x ≡ false → HasValue values) → action_fault x again a values rows ≡ [] → Each (IsFit c) rows
      → Each (IsFit c) (used_as x a.id (reading_by a) values rows)
  used_as_fit action.Set again a values rows sets plain own some none fit = set_fit again a values rows plain own (some refl) none fit
  used_as_fit action.SetTrue again a values rows sets plain own some none fit = set_fit again a values rows plain own (some refl) none fit
  used_as_fit action.SetFalse again a values rows sets plain own some none fit = absurd (true≢false (sym sets))
  used_as_fit action.Append again a values rows sets plain own some none fit =
      let pass : list_all (value_passes a) values ≡ true = values_pass a.ignore_case (parser_of_value a.parser) values none in
      with_values_fit c a.id (reading_by a) CommandLine values rows (some refl) plain (by_own_id c a values own pass) fit
  used_as_fit action.Count again a values rows sets plain own some none fit = absurd (true≢false (sym sets))
  used_as_fit action.Help again a values rows sets plain own some none fit = fit
  used_as_fit action.HelpShort again a values rows sets plain own some none fit = fit
  used_as_fit action.HelpLong again a values rows sets plain own some none fit = fit
  used_as_fit action.Version again a values rows sets plain own some none fit = fit

  used_fit : (again : Bool) (a : Rule) (values : List Text) (rows : List Row) → IsPlainRule c a → use_fault again a values rows ≡ [] → Each (IsFit c) rows
      → Each (IsFit c) (used a values rows)
  used_fit again a values rows one none fit =
      let parts = neither _ _ none in
      used_as_fit (action_of a) again a (values_or_missing a values) rows one.sets one.reading one.own (gives_value a values one.fills parts.0) parts.1 fit

module _ (c : List Rule) (again : Bool) (plain : Each (IsPlainRule c) c) where
  pub settled_fit : (h : Held) → settle_fault c again h ≡ [] → Each (IsFit c) h.rows → Each (IsFit c) (settled c h).rows
  settled_fit h none fit = go h.pending none
    where
      by_id : (p : Text × List Text) (o : Option Rule) → arg_by_id c p.0 ≡ o → option_map_or (λ a. use_fault again a p.1 h.rows) o [] ≡ [] → Each (IsFit c) (used_by_id o p.1 h.rows)
      by_id p None is fine = fit
      by_id p (Some a) is fine = used_fit c again a p.1 h.rows (found_each (IsPlainRule c) _ c a plain is) fine fit

      go : (p : Option (Text × List Text)) → option_map_or (λ p. option_map_or (λ a. use_fault again a p.1 h.rows) (arg_by_id c p.0) []) p [] ≡ []
          → Each (IsFit c) (settled_rows c p h.rows)
      go None fine = fit
      go (Some p) fine = by_id p (arg_by_id c p.0) refl fine

  pub reacted_fit : (a : Rule) (values : List Text) (h : Held) → IsPlainRule c a → react_fault c again a values h ≡ [] → Each (IsFit c) h.rows
      → Each (IsFit c) (reacted c a values h).rows
  reacted_fit a values h one none fit =
      let parts = neither (settle_fault c again h) _ none in
      used_fit c again a values (settled c h).rows one parts.1 (settled_fit h parts.0 fit)

-- ---- defaults

module _ (c : List Rule) where
  default_fit : (rows : List Row) (a : Rule) → IsPlainRule c a → Each (IsFit c) rows → Each (IsFit c) (with_default rows a)
  default_fit rows a plain fit = go (has_row a.id rows)
    where
      filled : (values : List Text) → list_all (value_passes a) values ≡ true → Each (IsFit c) (default_rows a.id (reading_by a) values rows)
      filled [] pass = fit
      filled (v ∷ vs) pass = with_values_fit c a.id (reading_by a) DefaultValue (v ∷ vs) rows tt plain.reading (by_own_id c a (v ∷ vs) plain.own pass) fit

      go : (b : Bool) → Each (IsFit c) (cond b rows (default_rows a.id (reading_by a) a.defaults rows))
      go true = fit
      go false = filled a.defaults plain.defaults

  -- with their defaults the rows still fit
  pub defaults_fit : (rules : List Rule) (rows : List Row) → Each (IsPlainRule c) rules → Each (IsFit c) rows → Each (IsFit c) (fold with_default rows rules)
  defaults_fit [] rows plain fit = fit
  defaults_fit (a ∷ rest) rows plain fit = defaults_fit rest (with_default rows a) plain.1 (default_fit rows a plain.0 fit)
