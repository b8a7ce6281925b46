-- Where the engine stands between two lines.
use Rattle.std.proofs.Common.{◌≡◌, ℕ, ◌+◌, ◌<◌, ◌≤◌, Result, Ok, Err, OnOk, OnErr, IfOk, IfErr, codes, List, []}
use Rattle.std.proofs.Common.{◌∷◌, ◌++◌, Option, length, take, drop, refl, ap, sym, ◌∙◌, subst, inl, inr}
use Rattle.std.proofs.Common.{append_assoc, append-nil, length-append, arith}
use Rattle.std.proofs.lemmas.List.{take-append-drop}
use Rattle.std.specs.Io.KnownBytes.{Appends, Keeps}
use Rattle.std.proofs.KnownBytes.{Appends-trans, Appends-kept}
use Rattle.cml_scan.specs.World.{PlainWorld}
use Rattle.cml_scan.specs.Scan.{scan}
use Rattle.cml_book.specs.declared.command.Command.{Command}
use Rattle.std.specs.List.{flat_map}
use Rattle.cml_book.specs.declared.command.Reply.{Reply}
use Rattle.cml_book.specs.Step.{step, world_after, empty_world, HasStopped}
use Rattle.cml_text.specs.Laws.{SpelledOrFaulty}
use Rattle.cml_trace.specs.declared.batch.Stop.{Stop}
use Rattle.cml_trace.specs.declared.batch.Stop.TheVariants as stop
use Rattle.cml_trace.specs.declared.fault.TraceEnd.{TraceEnd}
use Rattle.cml_trace.specs.declared.fault.TraceEnd.TheVariants.{Done, Bad, TooLong}
use Rattle.cml_trace.specs.declared.fault.TraceFault.{TraceFault}
use Rattle.cml_trace.specs.declared.fault.TraceFault.TheVariants.{Read, Turns, Write, Memory}
use Rattle.cml_trace.specs.Faults.{IsWriteFailure}
use Rattle.cml_trace.specs.Answers.{bad_line, trace_lines, max_input, Answers, AreDone}
use Rattle.cml_trace.specs.Replies.{line, reply_text, rows_text}
use Rattle.cml_trace.specs.Lines.{TraceLines}
use Rattle.cml_trace.specs.Batches.{StopsAt, Gathers}
use Rattle.cml_stream.specs.Streams.{Stream, stream, Takes, TakesStart}
use Rattle.cml_trace.specs.Pages.{Tells, TellsStart}
use Rattle.cml_trace.specs.Runs.{AreAnswered, AreBegun, AreWritten, AreWrittenTo, Came, IsAnswered, IsBegun, IsBroken}
use Rattle.cml_trace.proofs.PageLemmas.{Tells-nothing, Tells-both, TellsStart-nothing, TellsStart-all, TellsStart-more, TellsStart-behind}
use Rattle.cml_trace.proofs.AnswerLemmas.{replies_text, has_answer}
use Rattle.cml_trace.proofs.DoneLemmas.{done_answers, done_leads, done_both, done_batch, done_rows}

-- The lines before these were answered, and the text of that was told.
pub record Standing (w : PlainWorld) (all here : TraceLines) (v : PlainWorld) (waited waits : List ℕ) (held holds : Option (List ℕ)) : Type 0 where
  pub told : List ℕ
  pub passed : List (List ℕ)
  pub split : all.left ≡ passed ++ here.left
  pub counted : here.number ≡ all.number + length passed
  pub done : AreDone w passed told v
  pub tells : Tells waited waits (stream held holds) told

-- what answers the lines here answers all after that text
standing_leads : (w : PlainWorld) (all here : TraceLines) (v : PlainWorld) (a b : List ℕ) (held holds : Option (List ℕ)) (s : Standing w all here v a b held holds)
    (rest : List ℕ) (end : TraceEnd) → Answers here.number v here.left rest end → Answers all.number w all.left (s.told ++ rest) end
standing_leads w all here v a b held holds s rest end h =
    subst (λ (ls : List (List ℕ)). Answers all.number w ls (s.told ++ rest) end) (sym s.split)
    (done_leads all.number w s.passed s.told v s.done here.left rest end (subst (λ (k : ℕ). Answers k v here.left rest end) s.counted h))

pub Standing-start : (w : PlainWorld) (all : TraceLines) (waits : List ℕ) (held : Option (List ℕ)) → Standing w all all w waits waits held held
Standing-start w all waits held =
    let same : all.number ≡ all.number + 0 = omega arith in
    record { told = []; passed = []; split = refl; counted = same; done = (refl, refl); tells = Tells-nothing waits held }

-- the lines after a batch
abbrev pub behind : (old new : TraceLines) (cs : List Command) (why : Stop) → Gathers old new cs why → TraceLines
behind old new cs why g = record { number = old.number + length g.done; left = g.others }

-- some more lines were answered, and the text of that was told
Standing-on : (w : PlainWorld) (all here there : TraceLines) (v u : PlainWorld) (a b c : List ℕ) (held mid holds : Option (List ℕ)) (text : List ℕ) (more : List (List ℕ)) →
    Standing w all here v a b held mid → Tells b c (stream mid holds) text → here.left ≡ more ++ there.left → there.number ≡ here.number + length more →
    AreDone v more text u → Standing w all there u a c held holds
Standing-on w all here there v u a b c held mid holds text more s t split number done =
    let longer = length-append s.passed more in
    let first = s.counted in
    let counted : there.number ≡ all.number + length (s.passed ++ more) = omega arith in
    record {
      told = s.told ++ text;
      passed = s.passed ++ more;
      split = s.split ∙ ap (λ ls. s.passed ++ ls) split ∙ sym (append_assoc s.passed more there.left);
      counted = counted;
      done = done_both w v u s.passed more s.told text s.done done;
      tells = Tells-both a b c held mid holds s.told text s.tells t;
    }

pub Standing-batch : (w : PlainWorld) (all old new : TraceLines) (v : PlainWorld) (a b c : List ℕ) (held mid holds : Option (List ℕ)) (cs : List Command) (why : Stop) →
    Standing w all old v a b held mid → (g : Gathers old new cs why) → Tells b c (stream mid holds) (replies_text cs v) →
    Standing w all (behind old new cs why g) (world_after cs v) a c held holds
Standing-batch w all old new v a b c held mid holds cs why s g t =
    Standing-on w all old (behind old new cs why g) v (world_after cs v) a b c held mid holds (replies_text cs v) g.done s t g.split refl
    (done_batch v g.done cs g.asked)

pub Standing-rows : (w : PlainWorld) (all here new : TraceLines) (v : PlainWorld) (a b c : List ℕ) (held mid holds : Option (List ℕ)) →
    Standing w all here v a b held mid → StopsAt stop.Rows here new → Tells b c (stream mid holds) (rows_text (scan v)) →
    Standing w all new v a c held holds
Standing-rows w all here new v a b c held mid holds s at t =
    Standing-on w all here new v v a b c held mid holds (rows_text (scan v)) (at.0 ∷ []) s t at.2 at.3 (done_rows v at.0 at.1)

-- a bad line is answered by its number
bad_answered : (here new : TraceLines) (v : PlainWorld) (n : ℕ) → StopsAt (stop.Bad n) here new → Answers here.number v here.left (bad_line n) (Bad n)
bad_answered here new v n at =
    let first : Answers n v (at.0 ∷ at.1) (bad_line n) (Bad n) = inr (at.2, refl, refl) in
    let there : Answers n v here.left (bad_line n) (Bad n) = subst (λ (ls : List (List ℕ)). Answers n v ls (bad_line n) (Bad n)) (sym at.3) first in
    subst (λ (k : ℕ). Answers k v here.left (bad_line n) (Bad n)) at.4 there

not_done : {P : Type 0} (n : ℕ) → Bad n ≡ Done → P
not_done n e = absurd (cc)

pub answered_bad : (w u : PlainWorld) (all here new : TraceLines) (v : PlainWorld) (a b c : List ℕ) (held mid holds : Option (List ℕ)) (n : ℕ) →
    Standing w all here v a b held mid → StopsAt (stop.Bad n) here new → Tells b c (stream mid holds) (bad_line n) → AreAnswered all w u a c (stream held holds) (Bad n)
answered_bad w u all here new v a b c held mid holds n s at t = record {
  text = s.told ++ bad_line n;
  answered = standing_leads w all here v a b held mid s (bad_line n) (Bad n) (bad_answered here new v n at);
  leads = λ e. not_done n e;
  told = Tells-both a b c held mid holds s.told (bad_line n) s.tells t;
}

-- all lines were passed
passed_all : (w : PlainWorld) (all here : TraceLines) (v : PlainWorld) (a b : List ℕ) (held holds : Option (List ℕ)) (s : Standing w all here v a b held holds) →
    here.left ≡ [] → all.left ≡ s.passed
passed_all w all here v a b held holds s at = s.split ∙ ap (λ ls. s.passed ++ ls) at ∙ append-nil s.passed

pub answered_end : (w : PlainWorld) (all here new : TraceLines) (v : PlainWorld) (a b : List ℕ) (held holds : Option (List ℕ)) →
    Standing w all here v a b held holds → StopsAt stop.End here new → AreAnswered all w v a b (stream held holds) Done
answered_end w all here new v a b held holds s at =
    let done : AreDone w all.left s.told v = subst (λ (ls : List (List ℕ)). AreDone w ls s.told v) (sym (passed_all w all here v a b held holds s at.0)) s.done in
    record {
      text = s.told;
      answered = done_answers all.number w all.left s.told v done;
      leads = λ e. done;
      told = s.tells;
    }

pub counted_end : (w : PlainWorld) (all here new : TraceLines) (v : PlainWorld) (a b : List ℕ) (held holds : Option (List ℕ)) →
    Standing w all here v a b held holds → StopsAt stop.End here new → new.number ≡ all.number + length all.left
counted_end w all here new v a b held holds s at =
    at.1 ∙ s.counted ∙ ap (λ (ls : List (List ℕ)). all.number + length ls) (sym (passed_all w all here v a b held holds s at.0))

-- a prefix of what answers the lines here was told
begun_by : (w : PlainWorld) (all here : TraceLines) (v : PlainWorld) (a b c : List ℕ) (held mid holds : Option (List ℕ)) (rest : List ℕ) (end : TraceEnd) →
    Standing w all here v a b held mid → Answers here.number v here.left rest end → TellsStart b c (stream mid holds) rest → AreBegun all w a c (stream held holds)
begun_by w all here v a b c held mid holds rest end s answered t = record {
  text = s.told ++ rest;
  end = end;
  answered = standing_leads w all here v a b held mid s rest end answered;
  told = TellsStart-behind a b c held mid holds s.told rest s.tells t;
}

-- what answers the lines behind a batch, or behind one that asks for the rows, answers them after its text
batch_leads : (old new : TraceLines) (v : PlainWorld) (cs : List Command) (why : Stop) (g : Gathers old new cs why) (rest : List ℕ) (end : TraceEnd) →
    Answers (old.number + length g.done) (world_after cs v) g.others rest end → Answers old.number v old.left (replies_text cs v ++ rest) end
batch_leads old new v cs why g rest end h =
    subst (λ (ls : List (List ℕ)). Answers old.number v ls (replies_text cs v ++ rest) end) (sym g.split)
    (done_leads old.number v g.done (replies_text cs v) (world_after cs v) (done_batch v g.done cs g.asked) g.others rest end h)

rows_lead : (here new : TraceLines) (v : PlainWorld) → StopsAt stop.Rows here new → (rest : List ℕ) (end : TraceEnd) →
    Answers new.number v new.left rest end → Answers here.number v here.left (rows_text (scan v) ++ rest) end
rows_lead here new v at rest end h =
    subst (λ (ls : List (List ℕ)). Answers here.number v ls (rows_text (scan v) ++ rest) end) (sym at.2)
    (done_leads here.number v (at.0 ∷ []) (rows_text (scan v)) v (done_rows v at.0 at.1) new.left rest end (subst (λ (k : ℕ). Answers k v new.left rest end) at.3 h))

pub begun_batch : SpelledOrFaulty → (w : PlainWorld) (all old new : TraceLines) (v : PlainWorld) (a b c : List ℕ) (held mid holds : Option (List ℕ)) (cs : List Command) (why : Stop) →
    Standing w all old v a b held mid → Gathers old new cs why → TellsStart b c (stream mid holds) (replies_text cs v) → AreBegun all w a c (stream held holds)
begun_batch law w all old new v a b c held mid holds cs why s g t =
    let more = has_answer law (old.number + length g.done) (world_after cs v) g.others in
    begun_by w all old v a b c held mid holds (replies_text cs v ++ more.text) more.end s (batch_leads old new v cs why g more.text more.end more.answered)
    (TellsStart-more b c mid holds (replies_text cs v) more.text t)

pub begun_rows : SpelledOrFaulty → (w : PlainWorld) (all here new : TraceLines) (v : PlainWorld) (a b c : List ℕ) (held mid holds : Option (List ℕ)) →
    Standing w all here v a b held mid → StopsAt stop.Rows here new → TellsStart b c (stream mid holds) (rows_text (scan v)) → AreBegun all w a c (stream held holds)
begun_rows law w all here new v a b c held mid holds s at t =
    let more = has_answer law new.number v new.left in
    begun_by w all here v a b c held mid holds (rows_text (scan v) ++ more.text) more.end s (rows_lead here new v at more.text more.end more.answered)
    (TellsStart-more b c mid holds (rows_text (scan v)) more.text t)

pub begun_bad : (w : PlainWorld) (all here new : TraceLines) (v : PlainWorld) (a b c : List ℕ) (held mid holds : Option (List ℕ)) (n : ℕ) →
    Standing w all here v a b held mid → StopsAt (stop.Bad n) here new → TellsStart b c (stream mid holds) (bad_line n) → AreBegun all w a c (stream held holds)
begun_bad w all here new v a b c held mid holds n s at t =
    begun_by w all here v a b c held mid holds (bad_line n) (Bad n) s (bad_answered here new v n at) t

-- nothing more was told
pub begun_here : SpelledOrFaulty → (w : PlainWorld) (all here : TraceLines) (v : PlainWorld) (a b : List ℕ) (held holds : Option (List ℕ)) →
    Standing w all here v a b held holds → AreBegun all w a b (stream held holds)
begun_here law w all here v a b held holds s =
    let more = has_answer law here.number v here.left in
    begun_by w all here v a b b held holds holds more.text more.end s more.answered (TellsStart-nothing b more.text holds)

-- what waited was written too
pub written_whole : (all : TraceLines) (w v : PlainWorld) (waits : List ℕ) (held mid holds : Option (List ℕ)) (end : TraceEnd) →
    AreAnswered all w v [] waits (stream held mid) end → Takes (stream mid holds) waits → AreWritten all w v (stream held holds) end
written_whole all w v waits held mid holds end a sent = record {
  text = a.text;
  answered = a.answered;
  leads = a.leads;
  written = subst (λ (ts : List ℕ). Appends held holds ts) (sym a.told.whole) (Appends-trans held mid holds a.told.part waits a.told.written sent);
}

-- a prefix of what waited was written too
pub written_begun : (all : TraceLines) (w : PlainWorld) (waits : List ℕ) (held mid holds : Option (List ℕ)) →
    AreBegun all w [] waits (stream held mid) → TakesStart (stream mid holds) waits → AreWrittenTo all w (stream held holds)
written_begun all w waits held mid holds a sent = record {
  text = a.text;
  end = a.end;
  answered = a.answered;
  written = (
    a.told.part ++ sent.0,
    sent.1 ++ a.told.untold,
    a.told.whole ∙ ap (λ ts. a.told.part ++ (ts ++ a.told.untold)) sent.2 ∙ ap (λ ts. a.told.part ++ ts) (append_assoc sent.0 sent.1 a.told.untold)
        ∙ sym (append_assoc a.told.part sent.0 (sent.1 ++ a.told.untold)),
    Appends-trans held mid holds a.told.part sent.0 a.told.written sent.3,
  );
}

-- all was told, and a prefix of what waited was written
pub written_partly : (all : TraceLines) (w v : PlainWorld) (waits : List ℕ) (held mid holds : Option (List ℕ)) (end : TraceEnd) →
    AreAnswered all w v [] waits (stream held mid) end → TakesStart (stream mid holds) waits → AreWrittenTo all w (stream held holds)
written_partly all w v waits held mid holds end a sent =
    written_begun all w waits held mid holds
    (record { text = a.text; end = end; answered = a.answered; told = TellsStart-all [] waits held mid a.text a.told }) sent

-- the answer was told, and then what waited was written, all or a prefix of it
pub finish_ok : (all : TraceLines) (w v : PlainWorld) (waits : List ℕ) (held mid holds : Option (List ℕ)) (end result : Result TraceEnd TraceFault) →
    IfOk end (AreAnswered all w v [] waits (stream held mid)) → OnOk result (Takes (stream mid holds) waits) → IfOk result (λ e. end ≡ Ok e) →
    IfOk result (AreWritten all w v (stream held holds))
finish_ok all w v waits held mid holds end (Ok e) answered sent same =
    written_whole all w v waits held mid holds e
    (subst (λ (r : Result TraceEnd TraceFault). IfOk r (AreAnswered all w v [] waits (stream held mid))) same answered) sent
finish_ok all w v waits held mid holds end (Err fault) answered sent same = tt

pub finish_err : (all : TraceLines) (w v : PlainWorld) (waits : List ℕ) (held mid holds : Option (List ℕ)) (end result : Result TraceEnd TraceFault) →
    IfOk end (AreAnswered all w v [] waits (stream held mid)) → OnErr end (AreBegun all w [] waits (stream held mid)) →
    OnErr result (TakesStart (stream mid holds) waits) → OnErr result (AreWrittenTo all w (stream held holds))
finish_err all w v waits held mid holds end (Ok e) answered begun sent = tt
finish_err all w v waits held mid holds (Ok e) (Err fault) answered begun sent = written_partly all w v waits held mid holds e answered sent
finish_err all w v waits held mid holds (Err first) (Err fault) answered begun sent = written_begun all w waits held mid holds begun sent

-- what was written, all of it
pub all_written : (output : Stream) (text : List ℕ) → Takes output text → TakesStart output text
all_written output text written = (text, [], sym (append-nil text), written)

-- a first part
pub part_written : (output : Stream) (text : List ℕ) (k : ℕ) → Takes output (take k text) → TakesStart output text
part_written output text k written = (take k text, drop k text, sym (take-append-drop k text), written)

-- all of it was written, and then nothing more
pub written_to : (all : TraceLines) (w v : PlainWorld) (held mid holds : Option (List ℕ)) (end : TraceEnd) → AreWritten all w v (stream held mid) end → Keeps mid holds →
    AreWrittenTo all w (stream held holds)
written_to all w v held mid holds end a kept =
    record { text = a.text; end = end; answered = a.answered; written = all_written (stream held holds) a.text (Appends-kept held mid holds a.text a.written kept) }

-- all lines of a trace
abbrev pub lines_of : List ℕ → TraceLines
lines_of trace = record { number = 1; left = trace_lines trace }

-- the answer to the lines is the answer to the trace
pub trace_answered : (r : Result TraceEnd TraceFault) (input output : Stream) (trace : List ℕ) (v : PlainWorld) → length trace ≤ max_input →
    IfOk r (AreWritten (lines_of trace) empty_world v output) → Came input trace → IfOk r (IsAnswered input output)
trace_answered (Ok end) input output trace v short a came =
    record { trace = trace; text = a.text; came = came; answered = inl (short, a.answered); written = a.written }
trace_answered (Err fault) input output trace v short a came = tt

pub trace_begun : (r : Result TraceEnd TraceFault) (input output : Stream) (trace : List ℕ) → length trace ≤ max_input →
    OnErr r (AreWrittenTo (lines_of trace) empty_world output) → Came input trace → OnErr r (IsBegun input output)
trace_begun (Ok end) input output trace short a came = tt
trace_begun (Err fault) input output trace short a came =
    record { trace = trace; text = a.text; end = a.end; came = came; answered = inl (short, a.answered); written = a.written }

-- the whole answer was written, and so a prefix of it
pub begun_answered : (input output : Stream) (end : TraceEnd) → IsAnswered input output end → IsBegun input output
begun_answered input output end a =
    record { trace = a.trace; text = a.text; end = end; came = a.came; answered = a.answered; written = all_written output a.text a.written }

-- a prefix of what a trace that is too long is answered was written
pub begun_long : (input output : Stream) (trace : List ℕ) (k : ℕ) → Came input trace → max_input < length trace →
    Takes output (take k (line (codes "too long"))) → IsBegun input output
begun_long input output trace k came long written = record {
  trace = trace;
  text = line (codes "too long");
  end = TooLong;
  came = came;
  answered = inr (long, refl, refl);
  written = part_written output (line (codes "too long")) k written;
}

-- nothing of a trace was written to its end
pub broken : (r : Result TraceEnd TraceFault) (input output : Stream) (failed : ℕ) → IsWriteFailure r failed → OnErr r (IsBegun input output) →
    IfErr r (IsBroken input output)
broken (Ok a) input output failed is begun = tt
broken (Err Read) input output failed is begun = absurd is
broken (Err Turns) input output failed is begun = absurd is
broken (Err Write) input output failed is begun = begun
broken (Err Memory) input output failed is begun = inr begun

-- what more commands are answered comes after what the first are
pub record GoesOn (all first : List ℕ) : Type 0 where
  pub more : List ℕ
  pub whole : all ≡ first ++ more

replies_go_on : (done left : List Command) (w : PlainWorld) → GoesOn (replies_text (done ++ left) w) (replies_text done w)
replies_go_on [] left w = record { more = replies_text left w; whole = refl }
replies_go_on (c ∷ done) left w =
    let on = replies_go_on done left (step w c).0 in
    record {
      more = on.more;
      whole = ap (λ ts. reply_text (step w c).1 ++ ts) on.whole ∙ sym (append_assoc (reply_text (step w c).1) (replies_text done (step w c).0) on.more);
    }

-- a prefix of the replies of a run that stopped was told
pub begun_stopped : (commands left : List Command) (replies : List Reply) (old new : PlainWorld) (a b : List ℕ) (held holds : Option (List ℕ)) →
    HasStopped commands replies left old new → TellsStart a b (stream held holds) (flat_map reply_text replies) →
    TellsStart a b (stream held holds) (replies_text commands old)
begun_stopped commands left replies old new a b held holds s t =
    let on = replies_go_on s.done left old in
    let whole : replies_text commands old ≡ flat_map reply_text replies ++ on.more =
    ap (λ cs. replies_text cs old) s.split ∙ on.whole ∙ ap (λ rs. flat_map reply_text rs ++ on.more) (sym s.told_so_far) in
    subst (λ (ts : List ℕ). TellsStart a b (stream held holds) ts) (sym whole) (TellsStart-more a b held holds (flat_map reply_text replies) on.more t)

pub on_err : {A B P : Type 0} (r : Result A B) → P → OnErr r P
on_err (Ok a) p = tt
on_err (Err e) p = p
