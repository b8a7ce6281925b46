-- Lines that were done, one after another.
use Rattle.std.proofs.Common.{◌≡◌, ℕ, ◌+◌, List, [], ◌∷◌, ◌++◌, length, refl, ap, sym, ◌∙◌, subst, inl, inr, append_assoc, append-nil, arith}
use Rattle.cml_scan.specs.World.{PlainWorld}
use Rattle.cml_scan.specs.Scan.{scan}
use Rattle.cml_book.specs.declared.command.Command.{Command}
use Rattle.cml_book.specs.Step.{step, world_after}
use Rattle.cml_trace.specs.declared.order.Request.TheVariants as order
use Rattle.cml_trace.specs.declared.fault.TraceEnd.{TraceEnd}
use Rattle.cml_trace.specs.declared.fault.TraceEnd.TheVariants.{Done, Bad}
use Rattle.cml_trace.specs.Orders.{AsksFor}
use Rattle.cml_trace.specs.Replies.{rows_text}
use Rattle.cml_trace.specs.Answers.{answer_to, after_order, Answers, AreDone}
use Rattle.cml_trace.specs.Batches.{AskFor}
use Rattle.cml_trace.proofs.AnswerLemmas.{replies_text}

-- what answers the lines behind answers all after the text of those that were done
pub done_leads : (n : ℕ) (w : PlainWorld) (done : List (List ℕ)) (text : List ℕ) (v : PlainWorld) → AreDone w done text v → (behind : List (List ℕ)) (rest : List ℕ) (end : TraceEnd) →
    Answers (n + length done) v behind rest end → Answers n w (done ++ behind) (text ++ rest) end
done_leads n w [] text v d behind rest end h =
    let here : Answers (n + 0) w behind rest end = subst (λ (u : PlainWorld). Answers (n + 0) u behind rest end) d.1 h in
    let same : n + 0 ≡ n = omega arith in
    let there : Answers n w behind rest end = subst (λ (k : ℕ). Answers k w behind rest end) same here in
    subst (λ (t : List ℕ). Answers n w behind (t ++ rest) end) (sym d.0) there
done_leads n w (first ∷ done) text v d behind rest end h =
    let same : n + length (first ∷ done) ≡ (n + 1) + length done = omega arith in
    let next = done_leads (n + 1) (after_order d.0 w) done d.1 v d.4 behind rest end (subst (λ (k : ℕ). Answers k v behind rest end) same h) in
    inl (d.0, d.1 ++ rest, d.2, ap (λ t. t ++ rest) d.3 ∙ append_assoc (answer_to d.0 w) d.1 rest, next)

-- lines that were done are answered to their end
pub done_answers : (n : ℕ) (w : PlainWorld) (done : List (List ℕ)) (text : List ℕ) (v : PlainWorld) → AreDone w done text v → Answers n w done text Done
done_answers n w [] text v d = (d.0, refl)
done_answers n w (first ∷ done) text v d = inl (d.0, d.1, d.2, d.3, done_answers (n + 1) (after_order d.0 w) done d.1 v d.4)

-- some lines, and then some more
pub done_both : (w v u : PlainWorld) (done more : List (List ℕ)) (first second : List ℕ) → AreDone w done first v → AreDone v more second u →
    AreDone w (done ++ more) (first ++ second) u
done_both w v u [] more first second d e =
    let there : AreDone w more second u = subst (λ (x : PlainWorld). AreDone x more second u) d.1 e in
    subst (λ (t : List ℕ). AreDone w more (t ++ second) u) (sym d.0) there
done_both w v u (line ∷ done) more first second d e =
    (d.0, d.1 ++ second, d.2, ap (λ t. t ++ second) d.3 ∙ append_assoc (answer_to d.0 w) d.1 second, done_both (after_order d.0 w) v u done more d.1 second d.4 e)

-- the lines of a batch are done by its commands
pub done_batch : (w : PlainWorld) (done : List (List ℕ)) (cs : List Command) → AskFor done cs → AreDone w done (replies_text cs w) (world_after cs w)
done_batch w [] [] asked = (refl, refl)
done_batch w [] (c ∷ cs) asked = absurd (cc)
done_batch w (first ∷ done) cs (inl a) = (order.Skip, replies_text cs w, a.0, refl, done_batch w done cs a.1)
done_batch w (first ∷ done) cs (inr a) =
    subst (λ (xs : List Command). AreDone w (first ∷ done) (replies_text xs w) (world_after xs w)) (sym a.3)
    (order.Do a.0, replies_text a.1 (step w a.0).0, a.2, refl, done_batch (step w a.0).0 done a.1 a.4)

-- a line that asks for the rows leaves the world as it is
pub done_rows : (w : PlainWorld) (first : List ℕ) → AsksFor first order.Rows → AreDone w (first ∷ []) (rows_text (scan w)) w
done_rows w first asks = (order.Rows, [], asks, sym (append-nil (rows_text (scan w))), (refl, refl))

-- a bad line ends the trace, whatever comes behind the lines
pub bad_whatever : (n : ℕ) (w : PlainWorld) (some : List (List ℕ)) (text : List ℕ) (k : ℕ) (behind : List (List ℕ)) → Answers n w some text (Bad k) → Answers n w (some ++ behind) text (Bad k)
bad_whatever n w [] text k behind a = absurd (let e = a.1 in cc)
bad_whatever n w (first ∷ some) text k behind (inl a) = inl (a.0, a.1, a.2, a.3, bad_whatever (n + 1) (after_order a.0 w) some a.1 k behind a.4)
bad_whatever n w (first ∷ some) text k behind (inr a) = inr a
