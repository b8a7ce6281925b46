-- Steps are accepted commits.
use Rattle.std.proofs.Common.{◌≡◌, ◌≢◌, ℕ, ◌<◌, Bool, true, false, not, List, Some, None, Ok, refl, ap, ap₂, sym, ◌∙◌, subst, arith}
use Rattle.std.specs.Prelude.{slice_get, slice_set}
use Rattle.cml_value.specs.Value.{PlainValue, PlainFunction, PlainBase}
use Rattle.cml_value.specs.Group.{PlainGroup, leaves, lost}
use Rattle.cml_objects.specs.Handed.{handed}
use Rattle.cml_scan.specs.World.{running, PlainNack, fired, held, PlainWorld}
use Rattle.cml_scan.specs.Scan.{scan, has_row}
use Rattle.cml_scan.specs.declared.meet.Meet.{Meet}
use Rattle.cml_scan.proofs.Enabling.{scan-members, Contains-has_row, has_row-Contains}
use Rattle.cml_book.specs.declared.command.Committed.{Committed}
use Rattle.cml_book.specs.declared.refusal.Refusal.TheVariants.{Row}
use Rattle.cml_book.specs.Outcomes.{Outcome, refuse_if}
use Rattle.cml_book.specs.Sync.{with_each}
use Rattle.cml_book.specs.Resumes.{PlainResume}
use Rattle.cml_book.specs.Commit.{awaited, group_awaited, base_or_unit, wraps_or_none, base_awaited, given, taken, resume, hands, settled, released, after, commit}
use Rattle.cml_book.proofs.Commits.{commit_is}
use Rattle.cml_book.proofs.NackLemmas.{get-set_other}
use Rattle.cml_rules.specs.Rules.{Sequel, branches, Offers, Alone, at_any_time, gets, reads, takes, replaces}
use Rattle.cml_rules.specs.Rules.{mailed, posted, joins, comes, fires, Communicate, sends, swaps, Waits, went_on}
use Rattle.cml_rules.specs.Rules.{given_to, Synchronizes, alone, together}
use Rattle.cml_rules.specs.Places.{ends_at, row_of}
use Rattle.cml_rules.specs.Laws.{StepsAreCommits}
use Rattle.cml_rules.proofs.Derivations.{leaf_is}
use Rattle.cml_rules.proofs.Losing.{branches_are, lost_is}
use Rattle.cml_rules.proofs.Stepping.{step_enabled, enabled_step}

alone_given : {w : PlainWorld} {b : PlainBase} {v : PlainValue} {w' : PlainWorld} → Alone w b v w' → given w b ≡ v
alone_given (at_any_time v) = refl
alone_given (gets i v e) = rw e refl
alone_given (reads m v e) = rw e refl
alone_given (takes m v e) = rw e refl
alone_given (replaces m u v e) = rw e refl
alone_given (mailed b v vs e) = rw e refl
alone_given (posted p v vs e) = rw e refl
alone_given (joins t e) = refl
alone_given (comes t h) = refl
alone_given (fires k e) = refl

alone_taken : {w : PlainWorld} {b : PlainBase} {v : PlainValue} {w' : PlainWorld} → Alone w b v w' → taken w b ≡ w'
alone_taken (at_any_time v) = refl
alone_taken (gets i v e) = refl
alone_taken (reads m v e) = refl
alone_taken (takes m v e) = refl
alone_taken (replaces m u v e) = refl
alone_taken (mailed b v vs e) = rw e refl
alone_taken (posted p v vs e) = rw e refl
alone_taken (joins t e) = refl
alone_taken (comes t h) = refl
alone_taken (fires k e) = refl

pub alone_threads : {w : PlainWorld} {b : PlainBase} {v : PlainValue} {w' : PlainWorld} → Alone w b v w' → w'.threads ≡ w.threads
alone_threads (at_any_time v) = refl
alone_threads (gets i v e) = refl
alone_threads (reads m v e) = refl
alone_threads (takes m v e) = refl
alone_threads (replaces m u v e) = refl
alone_threads (mailed b v vs e) = refl
alone_threads (posted p v vs e) = refl
alone_threads (joins t e) = refl
alone_threads (comes t h) = refl
alone_threads (fires k e) = refl

pub alone_nacks : {w : PlainWorld} {b : PlainBase} {v : PlainValue} {w' : PlainWorld} → Alone w b v w' → w'.nacks ≡ w.nacks
alone_nacks (at_any_time v) = refl
alone_nacks (gets i v e) = refl
alone_nacks (reads m v e) = refl
alone_nacks (takes m v e) = refl
alone_nacks (replaces m u v e) = refl
alone_nacks (mailed b v vs e) = refl
alone_nacks (posted p v vs e) = refl
alone_nacks (joins t e) = refl
alone_nacks (comes t h) = refl
alone_nacks (fires k e) = refl

awaited_is : (w : PlainWorld) (t : ℕ) (g : PlainGroup) → Waits w t g → group_awaited w t ≡ g
awaited_is w t g p = ap awaited p

pub base_is : (w : PlainWorld) (t : ℕ) {g : PlainGroup} {b : PlainBase} {s : Sequel} (d : Offers g b s) → Waits w t g → base_awaited w t (ends_at d) ≡ b
base_is w t {g = g} d p = ap (λ x. base_or_unit (slice_get (leaves x) (ends_at d))) (awaited_is w t g p) ∙ ap base_or_unit (leaf_is d)

resume_by : (t : ℕ) (u v : PlainValue) (fs gs : List PlainFunction) (ks js : List ℕ) → u ≡ v → fs ≡ gs → ks ≡ js
    → Path PlainResume (record { thread = t; value = u; wraps = fs; fired = ks }) (record { thread = t; value = v; wraps = gs; fired = js })
resume_by t u v fs gs ks js e f g = λ i. record { thread = t; value = e i; wraps = f i; fired = g i }

resume_is : (w : PlainWorld) (t : ℕ) {g : PlainGroup} {b : PlainBase} {s : Sequel} (d : Offers g b s) (u v : PlainValue) → Waits w t g → u ≡ v → resume w t (ends_at d) u ≡ given_to t v s
resume_is w t {g = g} d u v p e =
    resume_by t u v _ _ _ _ e
    (ap (λ x. wraps_or_none (slice_get (leaves x) (ends_at d))) (awaited_is w t g p) ∙ ap wraps_or_none (leaf_is d))
    (ap (λ x. lost x (ends_at d)) (awaited_is w t g p) ∙ lost_is d)

settled_is : {g : PlainGroup} {b : PlainBase} {s : Sequel} (d : Offers g b s) (ns : List PlainNack) → settled (ends_at d) g ns ≡ with_each s.fired fired (with_each (branches g) held ns)
settled_is {g = g} d ns = ap₂ (λ ks js. with_each ks fired (with_each js held ns)) (lost_is d) (branches_are g)

released_is : (w : PlainWorld) (t : ℕ) {g : PlainGroup} {b : PlainBase} {s : Sequel} (d : Offers g b s) → Waits w t g → released w t (ends_at d) ≡ went_on w t g s
released_is w t {g = g} d p =
    ap (λ ns. record w { threads = slice_set w.threads t running; nacks = ns }) (ap (λ x. settled (ends_at d) x w.nacks) (awaited_is w t g p) ∙ settled_is d w.nacks)

pub meet_differ : {t u : ℕ} {a b : PlainBase} {x y : PlainValue} → Communicate t u a b x y → t ≢ u
meet_differ (sends c v h) = h
meet_differ (swaps s x y h) = λ e. below e h
  where
    below : {t u : ℕ} → t ≡ u → t < u → ⊥
    below e h = omega arith

meet_head : {t u : ℕ} {a b : PlainBase} {x y : PlainValue} → Communicate t u a b x y → handed b ≡ x
meet_head (sends c v h) = refl
meet_head (swaps s x y h) = refl

meet_other : {t u : ℕ} {a b : PlainBase} {x y : PlainValue} → Communicate t u a b x y → handed a ≡ y
meet_other (sends c v h) = refl
meet_other (swaps s x y h) = refl

pub after_is : {w w' : PlainWorld} {c : Committed} (d : Synchronizes w w' c) → after w (row_of d) ≡ w'
after_is {w = w} (alone t g b s v w' p d h) =
    let q : Waits w' t g = ap (λ ts. slice_get ts t) (alone_threads h) ∙ p in
    ap (λ x. released (taken w x) t (ends_at d)) (base_is w t d p) ∙ ap (λ x. released x t (ends_at d)) (alone_taken h) ∙ released_is w' t d q
after_is {w = w} (together t u g h a b r s x y p q d e m) =
    let k : Waits (went_on w t g r) u h = get-set_other w.threads t u running (meet_differ m) ∙ q in
    ap (λ x. released x u (ends_at e)) (released_is w t d p) ∙ released_is (went_on w t g r) u e k

pub hands_is : {w w' : PlainWorld} {c : Committed} (d : Synchronizes w w' c) → hands w (row_of d) ≡ c
hands_is {w = w} (alone t g b s v w' p d h) =
    ap (λ r. record { head = r; partner = None }) (resume_is w t d (given w (base_awaited w t (ends_at d))) v p (ap (given w) (base_is w t d p) ∙ alone_given h))
hands_is {w = w} (together t u g h a b r s x y p q d e m) =
    ap₂ (λ r s. record { head = r; partner = Some s })
    (resume_is w t d (handed (base_awaited w u (ends_at e))) x p (ap handed (base_is w u e q) ∙ meet_head m))
    (resume_is w u e (handed (base_awaited w t (ends_at d))) y q (ap handed (base_is w t d p) ∙ meet_other m))

pub commit_of : {w w' : PlainWorld} {c : Committed} (d : Synchronizes w w' c) → Path (Outcome Committed) (commit w (row_of d)) (Ok (w', c))
commit_of {w = w} d =
    commit_is w (row_of d) (has_row-Contains (scan w) (row_of d) ((scan-members w (row_of d)).1 (step_enabled d)))
    ∙ ap₂ (λ v c. Ok (v, c)) (after_is d) (hands_is d)

ok_same : (x y : PlainWorld × Committed) → Path (Outcome Committed) (Ok x) (Ok y) → x ≡ y
ok_same x y e = cc

accepted : (b : Bool) (x y : PlainWorld × Committed) → Path (Outcome Committed) (refuse_if (not b) Row (Ok x)) (Ok y) → b ≡ true
accepted true x y e = refl
accepted false x y e = cc

pub step_of : (w : PlainWorld) (row : Meet) (next : PlainWorld) (gives : Committed) → Path (Outcome Committed) (commit w row) (Ok (next, gives)) → (d : Synchronizes w next gives) × (row_of d ≡ row)
step_of w row next gives e =
    let has = accepted (has_row (scan w) row) (after w row, hands w row) (next, gives) e in
    let s = enabled_step w row ((scan-members w row).0 (Contains-has_row (scan w) row has)) in
    let same = ok_same (s.0.next, s.0.gives) (next, gives) (sym (commit_of s.0.derivation) ∙ ap (commit w) s.1 ∙ e) in
    subst (λ (q : PlainWorld × Committed). (d : Synchronizes w q.0 q.1) × (row_of d ≡ row)) same (s.0.derivation, s.1)

pub steps_are_commits : (w : PlainWorld) → StepsAreCommits w
steps_are_commits w = record { taken = λ s. commit_of s.derivation; derived = step_of w }
