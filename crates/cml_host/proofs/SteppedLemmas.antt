-- A run that was gone through by hand: what is left to save and to say.
use Rattle.std.proofs.Common.{◌≡◌, ◌∙◌, ℕ, List, [], Option, Some, None, Bor, option_map, inl, subst}
use Rattle.cml_check.specs.Sizes.{size_of}
use Rattle.cml_check.specs.Syntax.{PlainItem}
use Rattle.cml_hub.specs.Courses.{run_of}
use Rattle.cml_hub.specs.Kept.{Kept, IsAtStart}
use Rattle.cml_hub.specs.Runs.{stands}
use Rattle.cml_phrase.specs.Spots.{all_places}
use Rattle.cml_phrase.specs.declared.place.Place.{Place}
use Rattle.cml_schedule.specs.Written.{schedule_text}
use Rattle.cml_step.specs.Calls.{text_of}
use Rattle.cml_stepper.proofs.SessionLemmas.{session_keeps}
use Rattle.cml_stream.specs.Streams.{Counted}
use Rattle.cml_text.specs.Forms.{PlainSexpr}
use Rattle.cml_arguments.specs.declared.StepOptions.{StepOptions}
use Rattle.cml_host.specs.Behind.{bytes_of}
use Rattle.cml_host.specs.Replies.{Passage, PlainReply}
use Rattle.cml_host.specs.Scripts.{PlainScript}
use Rattle.cml_host.specs.Stepped.{stepped_budget, lines_typed, HubStepped, IsSaving, TalksOut, ScriptStepped}

-- the run of the hub was gone through to its end
pub hub_held : (s : List (List Place)) (name : Option (List ℕ)) (start last : Kept) (input : Counted) (output : Passage) (reply : PlainReply) → start.budget ≡ stepped_budget
    → TalksOut s start [] last input.bytes (bytes_of output) → input.counts.failed ≡ 0 → output.new.failed ≡ 0
    → stands (text_of last.course.program) last.course.items ≡ Some (run_of last.course)
    → IsSaving name (schedule_text last.budget (size_of last.course.program) last.course.items) reply → HubStepped s start.course.program name start input output reply
hub_held s name start last input output reply budget held read written leads saved =
    let kept = session_keeps s start last (lines_typed [] held.heard) held.ends held.session in
    let of_budget = subst (λ (b : ℕ). IsSaving name (schedule_text b (size_of last.course.program) last.course.items) reply) (kept.1 ∙ budget) saved in
    inl (
      last,
      held,
      read,
      written,
      subst (λ (q : List (PlainItem ℕ)). stands (text_of q) last.course.items ≡ Some (run_of last.course)) kept.0 leads,
      subst (λ (q : List (PlainItem ℕ)). IsSaving name (schedule_text stepped_budget (size_of q) last.course.items) reply) kept.0 of_budget,
    )

-- the same of a script
pub script_stepped : (options : StepOptions) (s : PlainScript) (text : List ℕ) (forms : List PlainSexpr) (p : List (PlainItem ℕ)) (h : Kept) (input : Counted) (output : Passage) (reply : PlainReply)
    → p ≡ s.program → text ≡ s.text → forms ≡ s.forms → IsAtStart p stepped_budget None h
    → HubStepped (all_places text forms) h.course.program (option_map (λ name. name.now) options.record) h input output reply → ScriptStepped options s input output reply
script_stepped options s text forms p h input output reply program same_text same_forms begins ran =
    let name = option_map (λ (name : Bor (List ℕ)). name.now) options.record in
    inl (
      h,
      subst (λ (q : List (PlainItem ℕ)). IsAtStart q stepped_budget None h) program begins,
      subst (λ (q : List (PlainItem ℕ)). HubStepped (all_places s.text s.forms) q name h input output reply) (begins.program ∙ program)
          (subst (λ (t : List ℕ). HubStepped (all_places t s.forms) h.course.program name h input output reply) same_text
          (subst (λ (fs : List PlainSexpr). HubStepped (all_places text fs) h.course.program name h input output reply) same_forms ran)),
    )
