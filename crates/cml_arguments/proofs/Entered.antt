-- Where nothing is wrong with the arguments, they name a command, with all that it must be given.
use Rattle.std.proofs.Common.{◌≡◌, ◌∙◌, ◌&&◌, ◌||◌, ap, ap₂, Bool, cond, not, codes, true, false, refl, sym, List, [], ◌∷◌, map, filter, Option, Some, None, is_some, option_map, true≢false}
use Rattle.std.specs.Prelude.{slice_get}
use Rattle.std.specs.Option.{option_map_or}
use Rattle.std.specs.List.{find, list_all, list_any}
use Rattle.std.specs.Str.{bytes_eq}
use Rattle.std.proofs.lemmas.Slice.Eq.{bytes_eq-Decides}
use Rattle.clap.specs.Facts.{explicit_source}
use Rattle.clap.specs.Faults.{defaults_fault, entered_fault, level_fault, settle_fault, walk_fault}
use Rattle.clap.specs.Kinds.{check_kinds}
use Rattle.clap.specs.Simple.{argument_words, built, entered, label_of, names_of, rows_at}
use Rattle.clap.specs.Takes.{is_given, value_passes}
use Rattle.clap.specs.Values.{is_request}
use Rattle.clap.specs.Walk.{action_of, answers_to, arg_by_id, finished, is_empty, nothing_held, reading_by, settled, walk, walk_from}
use Rattle.clap.specs.Words.{App, Row, Rule, Shape, Text, fault_of, subcommand_of}
use Rattle.clap.specs.declared.builder.value_parser.Reading.{Reading}
use Rattle.clap.specs.declared.builder.value_parser.Reading.TheVariants.{AsWritten}
use Rattle.clap.proofs.OnLiterals.{clap_on_literals}
use Rattle.clap.proofs.SimpleLemmas.{is_nil}
use Rattle.clap.proofs.WalkLemmas.{both, find-map}
use Rattle.cml_arguments.specs.Words.{commands, is_as_written, is_complete, has_first_value, is_served}
use Rattle.cml_arguments.proofs.Filled.{Each, HasValue, IsFit, IsPlainRule, defaults_fit, fills_in, found_each, is_set, neither, settled_fit}
use Rattle.cml_arguments.proofs.Served.{as_written}
use Rattle.cml_arguments.proofs.Steps.{NotHelp, walk_fit, walk_not_help}

-- ---- what is asked of the commands

-- the tests of a plain rule, all but the one on its name
abbrev pub is_plain_rule : Rule → Bool
is_plain_rule a =
    (is_set (action_of a) || is_request (action_of a))
    && ((is_request (action_of a) || fills_in a) && (is_as_written (reading_by a) && list_all (value_passes a) a.defaults))

-- no other name leads to the command, and its arguments are plain, unless it is the call for help
abbrev pub is_plain_shape : Shape → Bool
is_plain_shape s = is_empty s.aliases && (bytes_eq s.name (codes "help") || list_all is_plain_rule s.rules)

abbrev pub IsPlainShape : Shape → Type 0
IsPlainShape s = (is_empty s.aliases ≡ true) × (bytes_eq s.name (codes "help") ≡ false → Each (IsPlainRule s.rules) s.rules)

-- what the names of a command's arguments find, and the arguments
abbrev pub found_by_names : Shape → List (Option Rule)
found_by_names s = map (λ a. arg_by_id s.rules a.id) s.rules

abbrev pub arguments : Shape → List (Option Rule)
arguments s = map (λ a. Some a) s.rules

-- a command's name, and whether its arguments are served, of a built one those that do not end the parse
abbrev pub asks : Shape → Text × (List Row → Bool)
asks s = (s.name, λ given. list_all (is_served given) s.rules)

abbrev pub built_asks : Shape → Text × (List Row → Bool)
built_asks s = (s.name, λ given. list_all (is_served given) (filter (λ a. not (is_request (action_of a))) s.rules))

abbrev pub is_no_help : Shape → Bool
is_no_help s = not (bytes_eq s.name (codes "help"))

pub record IsReady (app : App) : Type 0 where
  pub subcommand : (built app).top.subcommand_required ≡ true
  pub help : (built app).top.disable_help_subcommand ≡ false
  pub plain : list_all is_plain_shape (built app).subs ≡ true
  pub own : map found_by_names (built app).subs ≡ map arguments (built app).subs
  pub same : map built_asks (filter is_no_help (built app).subs) ≡ map asks app.subs

-- ---- tests

found_hits : {X : Type 0} (test : X → Bool) (xs : List X) (x : X) → find test xs ≡ Some x → test x ≡ true
found_hits test [] x found = cc
found_hits test (y ∷ ys) x found = go (test y) refl found (found_hits test ys x)
  where
    go : (b : Bool) → test y ≡ b → cond b (Some y) (find test ys) ≡ Some x → (find test ys ≡ Some x → test x ≡ true) → test x ≡ true
    go true hit here rest =
        let same : y ≡ x = cc in
        rw (← same) hit
    go false miss there rest = rest there

-- what is found is found too where only some elements are kept, and it is among them
found_kept : {X : Type 0} (keep test : X → Bool) (xs : List X) (x : X) → keep x ≡ true → find test xs ≡ Some x → find test (filter keep xs) ≡ Some x
found_kept keep test [] x kept found = cc
found_kept keep test (y ∷ ys) x kept found = go (test y) refl found (found_kept keep test ys x kept)
  where
    past : (b : Bool) → test y ≡ false → find test (filter keep ys) ≡ Some x → find test (cond b (y ∷ filter keep ys) (filter keep ys)) ≡ Some x
    past true miss rest = rw miss rest
    past false miss rest = rest

    go : (b : Bool) → test y ≡ b → cond b (Some y) (find test ys) ≡ Some x → (find test ys ≡ Some x → find test (filter keep ys) ≡ Some x)
        → find test (cond (keep y) (y ∷ filter keep ys) (filter keep ys)) ≡ Some x
    go true hit here rest =
        let same : y ≡ x = cc in
        let mine : keep y ≡ true = rw same kept in
        rw (mine, hit) here
    go false miss there rest = past (keep y) miss (rest there)

not_either : (a b : Bool) → (a || b) ≡ false → (a ≡ false) × (b ≡ false)
not_either true b none = absurd (true≢false none)
not_either false b none = (refl, none)

past_first : (a b : Bool) → (a || b) ≡ true → a ≡ false → b ≡ true
past_first true b any none = absurd (true≢false none)
past_first false b any none = any

each_rule : (c rules : List Rule) → list_all is_plain_rule rules ≡ true → map (λ a. arg_by_id c a.id) rules ≡ map (λ a. Some a) rules → Each (IsPlainRule c) rules
each_rule c [] plain own = tt
each_rule c (a ∷ rest) plain own =
    let parts = both _ _ plain in
    let sets = both _ _ parts.0 in
    let fills = both _ _ sets.1 in
    let last = both _ _ fills.1 in
    let first : arg_by_id c a.id ≡ Some a = cc in
    let others : map (λ a. arg_by_id c a.id) rest ≡ map (λ a. Some a) rest = cc in
    (record { own = first; sets = sets.0; fills = fills.0; reading = as_written _ last.0; defaults = last.1 }, each_rule c rest parts.1 others)

each_shape : (subs : List Shape) → list_all is_plain_shape subs ≡ true → map found_by_names subs ≡ map arguments subs → Each IsPlainShape subs
each_shape [] plain own = tt
each_shape (s ∷ rest) plain own =
    let parts = both _ _ plain in
    let mine = both _ _ parts.0 in
    let first : found_by_names s ≡ arguments s = cc in
    let others : map found_by_names rest ≡ map arguments rest = cc in
    ((mine.0, λ no_help. each_rule s.rules s.rules (past_first _ _ mine.1 no_help) first), each_shape rest parts.1 others)

-- a name alone finds what its labels find
same_found : (word : Text) (subs : List Shape) → Each IsPlainShape subs → find (λ s. answers_to word (label_of s)) subs ≡ find (λ s. bytes_eq s.name word) subs
same_found word [] plain = refl
same_found word (s ∷ rest) plain =
    let alone : list_any (λ alias. bytes_eq alias word) s.aliases ≡ false = rw (is_nil s.aliases plain.0.0) refl in
    ap₂ (λ b o. cond b (Some s) o) (or_none (bytes_eq s.name word) _ alone) (same_found word rest plain.1)
  where
    or_none : (a b : Bool) → b ≡ false → (a || b) ≡ a
    or_none true b none = refl
    or_none false b none = none

-- ---- what must be given

filled_by : (a : Rule) (r : Row) (values : List Text) (how : Reading) → HasValue values → how ≡ AsWritten → list_all (value_passes a) values ≡ true
    → (is_as_written how && option_map_or (value_passes a) (slice_get values 0) false) ≡ true
filled_by a r [] how some plain pass = absurd some
filled_by a r (v ∷ vs) how some plain pass = rw plain (both _ _ pass).0

served : (c : List Rule) (rows : List Row) (a : Rule) → Each (IsFit c) rows → IsPlainRule c a → (a.required && not (is_given a.id rows)) ≡ false → is_served rows a ≡ true
served c rows a fit plain fine = go (find (λ r. bytes_eq r.id a.id) rows) refl fine
  where
    optional : (b : Bool) → (b && true) ≡ false → not b ≡ true
    optional true missing = absurd (true≢false missing)
    optional false missing = refl

    row : (r : Row) → r.id ≡ a.id → IsFit c r → has_first_value a r ≡ true
    row r same here =
        let by_id : list_all (λ v. option_map_or (λ b. value_passes b v) (arg_by_id c a.id) true) r.values ≡ true = rw same at here.2 in
        let pass : list_all (value_passes a) r.values ≡ true = rw plain.own at by_id in
        filled_by a r r.values r.reading here.0 here.1 pass

    go : (o : Option Row) → find (λ r. bytes_eq r.id a.id) rows ≡ o → (a.required && not (option_map_or (λ r. explicit_source r.source) o false)) ≡ false
        → option_map_or (has_first_value a) o (not a.required) ≡ true
    go None is missing = optional a.required missing
    go (Some r) is missing = row r ((bytes_eq-Decides r.id a.id).0 (found_hits _ rows r is)) (found_each (IsFit c) _ rows r fit is)

all_served : (c rules : List Rule) (rows : List Row) → Each (IsFit c) rows → Each (IsPlainRule c) rules → list_any (λ a. a.required && not (is_given a.id rows)) rules ≡ false
    → list_all (is_served rows) (filter (λ a. not (is_request (action_of a))) rules) ≡ true
all_served c [] rows fit plain none = refl
all_served c (a ∷ rest) rows fit plain none =
    let parts = not_either (a.required && not (is_given a.id rows)) _ none in
    go (not (is_request (action_of a))) (served c rows a fit plain.0 parts.0) (all_served c rest rows fit plain.1 parts.1)
  where
    go : (b : Bool) → is_served rows a ≡ true → list_all (is_served rows) (filter (λ a. not (is_request (action_of a))) rest) ≡ true
        → list_all (is_served rows) (cond b (a ∷ filter (λ a. not (is_request (action_of a))) rest) (filter (λ a. not (is_request (action_of a))) rest)) ≡ true
    go true here others = rw here others
    go false here others = others

no_check : (help subcommand argument : Bool) → check_kinds help subcommand argument ≡ [] → (subcommand ≡ false) × (argument ≡ false)
no_check true subcommand argument none = cc
no_check false true argument none = cc
no_check false false true none = cc
no_check false false false none = (refl, refl)

asks_anyway : (lifted missing : Bool) → (not (lifted && false) && missing) ≡ false → missing ≡ false
asks_anyway true missing none = none
asks_anyway false missing none = none

leaf_served : (s : Shape) (words : List Text) → Each (IsPlainRule s.rules) s.rules → level_fault s [] nothing_held words false [] ≡ []
    → (built_asks s).1 (rows_at s words).1 ≡ true
leaf_served s words plain none =
    let end = (walk s.rules [] nothing_held words).held in
    let steps = neither (walk_fault s [] (walk_from nothing_held) words) _ none in
    let ends = neither (settle_fault s.rules s.args_override_self end) _ steps.1 in
    let checks = neither (defaults_fault (settled s.rules end).rows s.rules) _ ends.1 in
    let walked = settled_fit s.rules s.args_override_self plain end ends.0 (walk_fit s [] (walk_from nothing_held) words plain steps.0 tt) in
    let fit : Each (IsFit s.rules) (finished s.rules end) = defaults_fit s.rules s.rules (settled s.rules end).rows plain walked in
    all_served s.rules s.rules (finished s.rules end) fit plain (asks_anyway s.subcommand_negates_reqs _ (no_check _ _ _ checks.1).1)

-- ---- the command that is entered

complete_by : (o : Option Shape) (s : Shape) (given : List Row) → option_map asks o ≡ Some (built_asks s) → (built_asks s).1 given ≡ true
    → option_map_or (λ command. list_all (is_served given) command.rules) o false ≡ true
complete_by None s given same done = cc
complete_by (Some command) s given same done =
    let one : asks command ≡ built_asks s = cc in
    ap (λ (q : Text × (List Row → Bool)). q.1 given) one ∙ done

module _ (app : App) (ready : IsReady app) where
  -- the command that the walk stopped at has what it must be given
  sub_complete : (p : Text × List Text) (s : Shape) → NotHelp (Some p) → find (λ s. answers_to p.0 (label_of s)) (built app).subs ≡ Some s
      → level_fault s [] nothing_held p.1 false [] ≡ [] → is_complete app (Some (rows_at s p.1)) ≡ true
  sub_complete p s off found none =
      let each_plain = each_shape (built app).subs ready.plain ready.own in
      let by_name : find (λ s. bytes_eq s.name p.0) (built app).subs ≡ Some s = sym (same_found p.0 (built app).subs each_plain) ∙ found in
      let name : s.name ≡ p.0 = (bytes_eq-Decides s.name p.0).0 (found_hits _ (built app).subs s by_name) in
      let not_help : bytes_eq s.name (codes "help") ≡ false = rw name off in
      let plain = (found_each IsPlainShape _ (built app).subs s each_plain by_name).1 not_help in
      let kept : find (λ s. bytes_eq s.name p.0) (filter is_no_help (built app).subs) ≡ Some s = found_kept is_no_help _ (built app).subs s (ap not not_help) by_name in
      let test = λ (q : Text × (List Row → Bool)). bytes_eq q.0 p.0 in
      let asked : option_map asks (find (λ s. bytes_eq s.name p.0) app.subs) ≡ Some (built_asks s) =
      find-map test asks app.subs
      ∙ (ap (find test) (sym ready.same) ∙ (sym (find-map test built_asks (filter is_no_help (built app).subs)) ∙ ap (option_map built_asks) kept)) in
      let done : option_map_or (λ command. list_all (is_served (rows_at s p.1).1) command.rules) (find (λ command. bytes_eq command.name p.0) app.subs) false ≡ true =
      complete_by _ s _ asked (leaf_served s p.1 plain none) in
      rw name done

  -- arguments with which nothing is wrong name a command, with what it must be given
  pub entered_complete : (words : List Text) → fault_of app words ≡ [] → is_complete app (subcommand_of app words) ≡ true
  entered_complete words none =
      let b = built app in
      let end = walk b.top.rules (names_of b) nothing_held (argument_words app words) in
      let steps = neither (walk_fault b.top (names_of b) (walk_from nothing_held) (argument_words app words)) _ none in
      let below = neither (entered_fault b end.stopped) _ steps.1 in
      let ends = neither (settle_fault b.top.rules b.top.args_override_self end.held) _ below.1 in
      let checks = neither (defaults_fault (settled b.top.rules end.held).rows b.top.rules) _ ends.1 in
      go end.stopped (walk_not_help b.top (names_of b) ready.help (walk_from nothing_held) (argument_words app words) steps.0 tt) below.0
      (must (is_some (entered b end.stopped)) b.top.subcommand_required ready.subcommand (no_check _ _ _ checks.1).0)
    where
      must : (has wanted : Bool) → wanted ≡ true → (not has && wanted) ≡ false → has ≡ true
      must true wanted is none = refl
      must false wanted is none = absurd (true≢false (sym is ∙ none))

      found : (p : Text × List Text) (o : Option Shape) → NotHelp (Some p) → find (λ s. answers_to p.0 (label_of s)) (built app).subs ≡ o
          → option_map_or (λ s. level_fault s [] nothing_held p.1 false []) o [] ≡ [] → is_some (option_map (λ s. rows_at s p.1) o) ≡ true
          → is_complete app (option_map (λ s. rows_at s p.1) o) ≡ true
      found p None off is fine has = absurd (true≢false (sym has))
      found p (Some s) off is fine has = sub_complete p s off is fine

      go : (o : Option (Text × List Text)) → NotHelp o → entered_fault (built app) o ≡ [] → is_some (entered (built app) o) ≡ true → is_complete app (entered (built app) o) ≡ true
      go None off fine has = absurd (true≢false (sym has))
      go (Some p) off fine has = found p (find (λ s. answers_to p.0 (label_of s)) (built app).subs) off refl fine has

commands_are_ready : IsReady commands
unfolding clap_on_literals
commands_are_ready = record { subcommand = refl; help = refl; plain = refl; own = refl; same = refl }

pub commands_complete : (words : List Text) → fault_of commands words ≡ [] → is_complete commands (subcommand_of commands words) ≡ true
commands_complete words none = entered_complete commands commands_are_ready words none
