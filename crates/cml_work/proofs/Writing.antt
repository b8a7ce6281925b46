-- What was written of reports.
use Rattle.std.proofs.Common.{ℕ, ◌≡◌, ◌-◌, ◌++◌, List, [], ◌∷◌, length, ap, sym, subst, ◌∙◌, append_assoc, append-nil}
use Rattle.std.specs.Prelude.{Option, Some, Result, Ok, IfOk, IfSome, take, drop}
use Rattle.std.proofs.lemmas.Grind.{flat_map-append}
use Rattle.std.proofs.KnownBytes.{Appends-nil, Appends-trans}
use Rattle.std.proofs.Math.Seq.{drop-append_seam, take-length}
use Rattle.std.proofs.lemmas.List.{take-append-drop, length-drop}
use Rattle.cml_schedule.specs.Reports.{PlainReport, report_text}
use Rattle.cml_stream.specs.Streams.{Stream, stream, Takes, TakesStart}
use Rattle.cml_work.specs.Marks.{BeginsWith}
use Rattle.cml_work.specs.Seen.{texts_of, IsSentOut, IsWatched}
use Rattle.cml_work.specs.declared.fault.WatchFault.{WatchFault}
use Rattle.cml_work.specs.declared.fault.WatchFault.TheVariants as watch_fault
use Rattle.cml_work.proofs.Sending.{start_behind, sent_behind}

-- the lines of one report more
pub texts_more : (seen : List PlainReport) (r : PlainReport) → texts_of (seen ++ r ∷ []) ≡ texts_of seen ++ report_text r
texts_more seen r = flat_map-append report_text seen (r ∷ []) ∙ ap (λ l. texts_of seen ++ l) (append-nil (report_text r))

pub takes_more : (a b c : Option (List ℕ)) (seen : List PlainReport) (r : PlainReport)
    → Takes (stream a b) (texts_of seen) → Takes (stream b c) (report_text r) → Takes (stream a c) (texts_of (seen ++ r ∷ []))
takes_more a b c seen r p q = rw (texts_more seen r) (Appends-trans a b c _ _ p q)

-- a prefix of one report more was written
pub starts_within : (a b c : Option (List ℕ)) (seen : List PlainReport) (r : PlainReport)
    → Takes (stream a b) (texts_of seen) → TakesStart (stream b c) (report_text r) → TakesStart (stream a c) (texts_of (seen ++ r ∷ []))
starts_within a b c seen r p q = rw (texts_more seen r) (start_behind a b c (texts_of seen) (report_text r) p q)

-- a prefix of the bytes that are this text
pub starts_with : (output : Stream) (text bytes : List ℕ) (n : ℕ) → bytes ≡ text → Takes output (take n bytes) → TakesStart output text
starts_with output text bytes n same took = (take n bytes, drop n bytes, sym same ∙ sym (take-append-drop n bytes), took)

-- a prefix of the lines of these reports is one of the lines of those that begin with them
pub starts_more : (output : Stream) (all first : List PlainReport) → BeginsWith all first → TakesStart output (texts_of first) → TakesStart output (texts_of all)
starts_more output all first (rest, is) (part, unwritten, split, took) = (
  part,
  unwritten ++ texts_of rest,
  ap texts_of is ∙ flat_map-append report_text first rest ∙ ap (λ l. l ++ texts_of rest) split ∙ append_assoc part unwritten (texts_of rest),
  took,
)

pub watched_broke : (output : Stream) (seen : List PlainReport) (fault : Option WatchFault) (w : WatchFault) → fault ≡ Some w → w ≡ watch_fault.Write
    → IsWatched output seen fault → TakesStart output (texts_of seen)
watched_broke output seen fault w is write took = subst (λ (f : Option WatchFault). IsWatched output seen f) (is ∙ ap Some write) took

-- the lines of the same reports
pub takes_same : (output : Stream) (these those : List PlainReport) → these ≡ those → Takes output (texts_of these) → Takes output (texts_of those)
takes_same output these those is took = subst (λ (l : List PlainReport). Takes output (texts_of l)) is took

-- where no report was seen nothing is written
pub none_seen : (a : Option (List ℕ)) (seen : List PlainReport) → seen ≡ [] → Takes (stream a a) (texts_of seen)
none_seen a seen none = takes_same (stream a a) [] seen (sym none) (Appends-nil a)

-- the lines of those that were seen were written, and then those of the rest, as far as that went
pub sent_rest : {A E : Type 0} (a b c : Option (List ℕ)) (all seen : List PlainReport) (r : Result A E) → BeginsWith all seen → Takes (stream a b) (texts_of seen)
    → IsSentOut (texts_of (take (length all - length seen) (drop (length seen) all))) r (stream b c) → IsSentOut (texts_of all) r (stream a c)
sent_rest a b c all seen r (rest, is) took sent =
    let left = drop (length seen) all in
    let behind : take (length all - length seen) left ≡ rest =
    ap (λ (n : ℕ). take n left) (sym (length-drop (length seen) all)) ∙ take-length left ∙ ap (λ (l : List PlainReport). drop (length seen) l) is ∙ drop-append_seam seen rest in
    let whole : texts_of all ≡ texts_of seen ++ texts_of rest = ap texts_of is ∙ flat_map-append report_text seen rest in
    subst (λ (l : List ℕ). IsSentOut l r (stream a c)) (sym whole)
    (sent_behind a b c (texts_of seen) (texts_of rest) r took (subst (λ (l : List PlainReport). IsSentOut (texts_of l) r (stream b c)) behind sent))

-- what is said of a report that was told
pub told_of : {A E : Type 0} (P : A → Type 0) (r : Result (Option A) E) (x : A) → r ≡ Ok (Some x) → IfOk r (λ told. IfSome told P) → P x
told_of P r x is h = subst (λ q. IfOk q (λ told. IfSome told P)) is h
