-- Where no word of a walk is at fault, each row has values that pass, and the walk stops at no call for help.
use Rattle.std.proofs.Common.{◌≡◌, ◌&&◌, ℕ, Bool, cond, not, codes, true, false, zero, suc, refl, List, [], ◌∷◌, length, drop, Option, Some, None, is_some, true≢false}
use Rattle.std.specs.Prelude.{encode_utf8, slice_get, ⊤}
use Rattle.std.specs.Option.{option_map_or}
use Rattle.std.specs.List.{fold}
use Rattle.std.specs.Str.{bytes_eq, chars}
use Rattle.clap.specs.Lexer.{long_of, short_of}
use Rattle.clap.specs.Words.{Kinds, Shape}
use Rattle.clap.specs.Faults.{bundle_fault, bundle_step_fault, flag_word_fault, flags_fault, long_fault}
use Rattle.clap.specs.Faults.{option_fault, other_fault, positional_fault, react_fault, settle_fault, short_fault}
use Rattle.clap.specs.Faults.{step_fault, stray_fault, turn_fault, walk_fault, word_fault}
use Rattle.clap.specs.Kinds.{or_else}
use Rattle.clap.specs.Walk.{Held, Names, Outcome, Rule, Step, Text, Waiting, Walk, after_flag, after_step}
use Rattle.clap.specs.Walk.{arg_by_id, arg_by_index, arg_by_long, arg_by_short, attached_value, bundle, bundle_met}
use Rattle.clap.specs.Walk.{bundle_step, done, flag_met, idle, is_pending, long_met, long_or_other, next, option}
use Rattle.clap.specs.Walk.{option_met, option_word, plain, plain_word, positional, reacted, refused, settled}
use Rattle.clap.specs.Walk.{short_met, short_or_plain, subcommand, subcommand_met, subcommand_or_other}
use Rattle.clap.specs.Walk.{takes_several, takes_values, to_positional, trailing, value, waits, walked, walked_from}
use Rattle.clap.specs.Walk.{word_met}
use Rattle.clap.specs.declared.error.kind.ErrorKind.TheVariants.{DisplayHelp, InvalidSubcommand, TooManyValues}
use Rattle.cml_arguments.proofs.Filled.{Each, IsFit, IsPlainRule, found_each, neither, reacted_fit, settled_fit}

-- ---- flags and options

module _ (c : List Rule) (again : Bool) (plain_rules : Each (IsPlainRule c) c) where
  option_fit : (a : Rule) (v : Option Text) (h : Held) → IsPlainRule c a → option_fault c again a v h ≡ [] → Each (IsFit c) h.rows → Each (IsFit c) (option_met c a v h).0.rows
  option_fit a (Some v) h one none fit = reacted_fit c again plain_rules a (v ∷ []) h one none fit
  option_fit a None h one none fit = settled_fit c again plain_rules h none fit

  long_fit : (o : Option Rule) (v : Option Text) (h : Held) → ((a : Rule) → o ≡ Some a → IsPlainRule c a) → long_fault c again o v h ≡ [] → Each (IsFit c) h.rows
      → Each (IsFit c) (long_met c o v h).0.rows
  long_fit None v h each none fit = fit
  long_fit (Some a) v h each none fit = go (takes_values a) none
    where
      flag : (w : Option Text) → cond (is_some w) (TooManyValues ∷ []) (react_fault c again a [] h) ≡ [] → Each (IsFit c) (flag_met c a w h).0.rows
      flag None fine = reacted_fit c again plain_rules a [] h (each a refl) fine fit
      flag (Some w) fine = fit

      go : (b : Bool) → cond b (option_fault c again a v h) (cond (is_some v) (TooManyValues ∷ []) (react_fault c again a [] h)) ≡ []
          → Each (IsFit c) (cond b (option_met c a v h) (flag_met c a v h)).0.rows
      go true fine = option_fit a v h (each a refl) fine fit
      go false fine = flag v fine

  short_fit : (o : Option Rule) (rest : Text) (h : Held) (met : Held → Held × Outcome) (fault : Held → Kinds)
      → ((k : Held) → fault k ≡ [] → Each (IsFit c) k.rows → Each (IsFit c) (met k).0.rows) → ((a : Rule) → o ≡ Some a → IsPlainRule c a)
      → short_fault c again o rest h fault ≡ [] → Each (IsFit c) h.rows → Each (IsFit c) (short_met c o rest h met).0.rows
  short_fit None rest h met fault more each none fit = fit
  short_fit (Some a) rest h met fault more each none fit = go (takes_values a) none
    where
      go : (b : Bool) → cond b (option_fault c again a (attached_value rest) h) (or_else (react_fault c again a [] h) (fault (reacted c a [] h))) ≡ []
          → Each (IsFit c) (cond b (option_met c a (attached_value rest) h) (met (reacted c a [] h))).0.rows
      go true fine = option_fit a (attached_value rest) h (each a refl) fine fit
      go false fine =
          let parts = neither (react_fault c again a [] h) _ fine in
          more (reacted c a [] h) parts.1 (reacted_fit c again plain_rules a [] h (each a refl) parts.0 fit)

  bundle_step_fit : (met : Text → ℕ → Outcome → Held → Held × Outcome) (fault : Text → ℕ → Held → Kinds)
      → ((flags : Text) (skip : ℕ) (so_far : Outcome) (k : Held) → fault flags skip k ≡ [] → Each (IsFit c) k.rows → Each (IsFit c) (met flags skip so_far k).0.rows)
      → (o : Option ℕ) (flags : Text) (skip : ℕ) (so_far : Outcome) (h : Held) → bundle_step_fault c again o flags skip h fault ≡ [] → Each (IsFit c) h.rows
      → Each (IsFit c) (bundle_step c o flags skip so_far h met).0.rows
  bundle_step_fit met fault more None flags skip so_far h none fit = fit
  bundle_step_fit met fault more (Some x) flags zero so_far h none fit =
      let rest = drop (length (encode_utf8 x)) flags in
      short_fit (arg_by_short c x) rest h (met rest 0 done) (fault rest 0) (more rest 0 done) (λ a is. found_each (IsPlainRule c) _ c a plain_rules is) none fit
  bundle_step_fit met fault more (Some x) flags (suc skip) so_far h none fit = more (drop (length (encode_utf8 x)) flags) skip so_far h none fit

  bundle_fit : (k : ℕ) (flags : Text) (skip : ℕ) (so_far : Outcome) (h : Held) → flags_fault c again k flags skip h ≡ [] → Each (IsFit c) h.rows
      → Each (IsFit c) (bundle_met c k flags skip so_far h).0.rows
  unfolding bundle_met flags_fault
  bundle_fit zero flags skip so_far h none fit = fit
  bundle_fit (suc k) flags skip so_far h none fit =
      bundle_step_fit (bundle_met c k) (flags_fault c again k) (bundle_fit k) (slice_get (chars flags) 0) flags skip so_far h none fit

  plain_fit : (waiting : Waiting) (word : Text) (h : Held) → Each (IsFit c) h.rows → Each (IsFit c) (plain_word c waiting word h).0.rows
  plain_fit (option id) word h fit = go (arg_by_id c id)
    where
      go : (o : Option Rule) → Each (IsFit c) (option_word o id word h).0.rows
      go None = fit
      go (Some a) = fit
  plain_fit idle word h fit = fit
  plain_fit positional word h fit = fit

  after_flag_fit : (waiting : Waiting) (word : Text) (h : Held) (o : Outcome) → Each (IsFit c) h.rows → Each (IsFit c) (after_flag c waiting word h o).0.rows
  after_flag_fit waiting word h done fit = fit
  after_flag_fit waiting word h (waits id) fit = fit
  after_flag_fit waiting word h plain fit = plain_fit waiting word h fit
  after_flag_fit waiting word h refused fit = plain_fit waiting word h fit

  flag_word_fit : (waiting : Waiting) (word : Text) (o : Option (Text × Option Text)) (h : Held) → flag_word_fault c again o word h ≡ [] → Each (IsFit c) h.rows
      → Each (IsFit c) (long_or_other c waiting word o h).0.rows
  flag_word_fit waiting word (Some p) h none fit =
      after_flag_fit waiting word (long_met c (arg_by_long c p.0) p.1 h).0 (long_met c (arg_by_long c p.0) p.1 h).1
      (long_fit (arg_by_long c p.0) p.1 h (λ a is. found_each (IsPlainRule c) _ c a plain_rules is) none fit)
  flag_word_fit waiting word None h none fit = go (short_of word) none
    where
      go : (o : Option Text) → option_map_or (λ flags. bundle_fault c again flags h) o [] ≡ [] → Each (IsFit c) (short_or_plain c waiting word o h).0.rows
      go None fine = plain_fit waiting word h fit
      go (Some flags) fine =
          after_flag_fit waiting word (bundle c flags h).0 (bundle c flags h).1 (bundle_fit (length flags) flags h.skip plain (record h { skip = 0 }) fine fit)

-- ---- one word

module _ (s : Shape) (names : Names) where
  word_fit : (is_trailing : Bool) (waiting : Waiting) (position : ℕ) (word : Text) (h : Held) → Each (IsPlainRule s.rules) s.rules
      → word_fault s names is_trailing waiting word h ≡ [] → Each (IsFit s.rules) h.rows → Each (IsFit s.rules) (word_met s.rules names is_trailing waiting position word h).0.rows
  word_fit true waiting position word h plain_rules none fit = fit
  word_fit false waiting position word h plain_rules none fit = go (subcommand_met names waiting word) none
    where
      other : (b : Bool) → cond b [] (flag_word_fault s.rules s.args_override_self (long_of word) word h) ≡ []
          → Each (IsFit s.rules) (cond b (h, trailing position) (long_or_other s.rules waiting word (long_of word) h)).0.rows
      other true fine = fit
      other false fine = flag_word_fit s.rules s.args_override_self plain_rules waiting word (long_of word) h fine fit

      go : (o : Option Text) → other_fault s o word h ≡ [] → Each (IsFit s.rules) (subcommand_or_other s.rules o waiting position word h).0.rows
      go (Some name) fine = fit
      go None fine = other (bytes_eq word (45 ∷ 45 ∷ [])) fine

  step_fit : (word : Text) (w : Walk) (h : Held) (step : Step) → Each (IsPlainRule s.rules) s.rules → step_fault s w.position h step ≡ [] → Each (IsFit s.rules) h.rows
      → Each (IsFit s.rules) (after_step s.rules word w h step).held.rows
  step_fit word w h (next waiting) plain_rules none fit = fit
  step_fit word w h (trailing position) plain_rules none fit = fit
  step_fit word w h (subcommand name) plain_rules none fit = fit
  step_fit word w h value plain_rules none fit = go (arg_by_index s.rules w.position) none
    where
      held : (a : Rule) (b : Bool) → cond b [] (settle_fault s.rules s.args_override_self h) ≡ [] → Each (IsFit s.rules) (cond b h (settled s.rules h)).rows
      held a true fine = fit
      held a false fine = settled_fit s.rules s.args_override_self plain_rules h fine fit

      go : (o : Option Rule) → option_map_or (λ a. positional_fault s.rules s.args_override_self a h) o (stray_fault s) ≡ []
          → Each (IsFit s.rules) (to_positional s.rules o word w h).held.rows
      go None fine = fit
      go (Some a) fine = held a (is_pending a h.pending && takes_several a) fine

  turn_fit : (w : Walk) (word : Text) → Each (IsPlainRule s.rules) s.rules → turn_fault s names w word ≡ [] → Each (IsFit s.rules) w.held.rows
      → Each (IsFit s.rules) (walked s.rules names w word).held.rows
  unfolding walked
  turn_fit w word plain_rules none fit = go w.stopped none
    where
      met : Held × Step
      met = word_met s.rules names w.is_trailing w.waiting w.position word w.held

      go : (o : Option (Text × List Text))
          → cond (is_some o) [] (or_else (word_fault s names w.is_trailing w.waiting word w.held) (step_fault s w.position met.0 met.1)) ≡ []
          → Each (IsFit s.rules) (walked_from s.rules names o w word).held.rows
      go (Some p) fine = fit
      go None fine =
          let parts = neither (word_fault s names w.is_trailing w.waiting word w.held) _ fine in
          step_fit word w met.0 met.1 plain_rules parts.1 (word_fit w.is_trailing w.waiting w.position word w.held plain_rules parts.0 fit)

-- ---- the walk

module _ (s : Shape) (names : Names) where
  -- what each word that passes keeps stands at the end
  walk_keeps : (P : Walk → Type 0) → ((w : Walk) (word : Text) → turn_fault s names w word ≡ [] → P w → P (walked s.rules names w word)) → (w : Walk) (words : List Text)
      → walk_fault s names w words ≡ [] → P w → P (fold (walked s.rules names) w words)
  unfolding walk_fault
  walk_keeps P keeps w [] none here = here
  walk_keeps P keeps w (word ∷ rest) none here =
      let parts = neither (turn_fault s names w word) _ none in
      walk_keeps P keeps (walked s.rules names w word) rest parts.1 (keeps w word parts.0 here)

  pub walk_fit : (w : Walk) (words : List Text) → Each (IsPlainRule s.rules) s.rules → walk_fault s names w words ≡ [] → Each (IsFit s.rules) w.held.rows
      → Each (IsFit s.rules) (fold (walked s.rules names) w words).held.rows
  walk_fit w words plain_rules none fit = walk_keeps (λ w. Each (IsFit s.rules) w.held.rows) (λ w word fine here. turn_fit s names w word plain_rules fine here) w words none fit

-- ---- help

-- the walk did not stop at a call for help
abbrev pub NotHelp : Option (Text × List Text) → Type 0
NotHelp None = ⊤
NotHelp (Some p) = bytes_eq p.0 (codes "help") ≡ false

abbrev NotHelpStep : Step → Type 0
NotHelpStep (subcommand name) = bytes_eq name (codes "help") ≡ false
NotHelpStep (next waiting) = ⊤
NotHelpStep (trailing position) = ⊤
NotHelpStep value = ⊤

module _ (c : List Rule) where
  plain_steps : (waiting : Waiting) (word : Text) (h : Held) → NotHelpStep (plain_word c waiting word h).1
  plain_steps (option id) word h = tt
  plain_steps idle word h = tt
  plain_steps positional word h = tt

  flag_steps : (waiting : Waiting) (word : Text) (h : Held) (o : Outcome) → NotHelpStep (after_flag c waiting word h o).1
  flag_steps waiting word h done = tt
  flag_steps waiting word h (waits id) = tt
  flag_steps waiting word h plain = plain_steps waiting word h
  flag_steps waiting word h refused = plain_steps waiting word h

  flag_word_steps : (waiting : Waiting) (word : Text) (o : Option (Text × Option Text)) (h : Held) → NotHelpStep (long_or_other c waiting word o h).1
  flag_word_steps waiting word (Some p) h = flag_steps waiting word (long_met c (arg_by_long c p.0) p.1 h).0 (long_met c (arg_by_long c p.0) p.1 h).1
  flag_word_steps waiting word None h = go (short_of word)
    where
      go : (o : Option Text) → NotHelpStep (short_or_plain c waiting word o h).1
      go None = plain_steps waiting word h
      go (Some flags) = flag_steps waiting word (bundle c flags h).0 (bundle c flags h).1

  after_step_steps : (word : Text) (w : Walk) (h : Held) (step : Step) → NotHelpStep step → NotHelp w.stopped → NotHelp (after_step c word w h step).stopped
  after_step_steps word w h (next waiting) off before = before
  after_step_steps word w h (trailing position) off before = before
  after_step_steps word w h (subcommand name) off before = off
  after_step_steps word w h value off before = go (arg_by_index c w.position)
    where
      go : (o : Option Rule) → NotHelp (to_positional c o word w h).stopped
      go None = before
      go (Some a) = tt

no_call : (called off : Bool) → off ≡ false → cond (called && not off) (DisplayHelp ∷ InvalidSubcommand ∷ []) [] ≡ [] → called ≡ false
no_call true true on none = absurd (true≢false on)
no_call true false on none = cc
no_call false off on none = refl

module _ (s : Shape) (names : Names) (answers : s.disable_help_subcommand ≡ false) where
  word_steps : (is_trailing : Bool) (waiting : Waiting) (position : ℕ) (word : Text) (h : Held) → word_fault s names is_trailing waiting word h ≡ []
      → NotHelpStep (word_met s.rules names is_trailing waiting position word h).1
  word_steps true waiting position word h none = tt
  word_steps false waiting position word h none = go (subcommand_met names waiting word) none
    where
      other : (b : Bool) → NotHelpStep (cond b (h, trailing position) (long_or_other s.rules waiting word (long_of word) h)).1
      other true = tt
      other false = flag_word_steps s.rules waiting word (long_of word) h

      go : (o : Option Text) → other_fault s o word h ≡ [] → NotHelpStep (subcommand_or_other s.rules o waiting position word h).1
      go (Some name) fine = no_call (bytes_eq name (codes "help")) s.disable_help_subcommand answers fine
      go None fine = other (bytes_eq word (45 ∷ 45 ∷ []))

  turn_steps : (w : Walk) (word : Text) → turn_fault s names w word ≡ [] → NotHelp w.stopped → NotHelp (walked s.rules names w word).stopped
  unfolding walked
  turn_steps w word none before = go w.stopped none before
    where
      met : Held × Step
      met = word_met s.rules names w.is_trailing w.waiting w.position word w.held

      go : (o : Option (Text × List Text))
          → cond (is_some o) [] (or_else (word_fault s names w.is_trailing w.waiting word w.held) (step_fault s w.position met.0 met.1)) ≡ [] → NotHelp o
          → NotHelp (walked_from s.rules names o w word).stopped
      go (Some p) fine off = off
      go None fine off =
          let parts = neither (word_fault s names w.is_trailing w.waiting word w.held) _ fine in
          after_step_steps s.rules word w met.0 met.1 (word_steps w.is_trailing w.waiting w.position word w.held parts.0) before

  pub walk_not_help : (w : Walk) (words : List Text) → walk_fault s names w words ≡ [] → NotHelp w.stopped → NotHelp (fold (walked s.rules names) w words).stopped
  walk_not_help w words none before = walk_keeps s names (λ w. NotHelp w.stopped) turn_steps w words none before
