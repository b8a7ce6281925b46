-- What `verify` tells, as an object.
use Rattle.std.specs.Prelude.{ℕ, Bool, true, false, List, [], ◌∷◌, ◌++◌, codes, map, slice_get, Option, Some, None, is_none}
use Rattle.std.specs.Fmt.{decimal}
use Rattle.cml_text.specs.Forms.{PlainSexpr}
use Rattle.cml_text.specs.Lines.{line}
use Rattle.cml_explore.specs.declared.ends.EndTold.{EndTold}
use Rattle.cml_explore.specs.declared.ends.EndsTold.{EndsTold}
use Rattle.cml_explore.specs.declared.fault_told.FaultTold.{FaultTold}
use Rattle.cml_json.specs.Json.{array, commas, json_string, member, object, optional, truth}
use Rattle.cml_json.specs.Runs.{run_json}

-- a class of ends: whether it is good, how many items its shortest schedule has, and the run by that
unfoldable pub end_json : List PlainSexpr → List ℕ → EndTold → List ℕ
end_json forms servers e = object (member (codes "good") (truth e.well)
    ∷ member (codes "items") (decimal e.items)
    ∷ member (codes "run") (run_json forms servers e.run) ∷ [])

-- a fault: how many items a shortest schedule to it has, whose turn the last of them is, and the run by it
unfoldable pub fault_json : List PlainSexpr → List ℕ → FaultTold → List ℕ
fault_json forms servers f = object (member (codes "items") (decimal f.items)
    ∷ member (codes "thread") (optional decimal f.thread)
    ∷ member (codes "run") (run_json forms servers f.run) ∷ [])

-- the verdict: something bad was found; or nothing was, and every schedule was examined, or the bound was reached
unfoldable pub verdict_name : Option ℕ → Bool → List ℕ
verdict_name reach false = codes "bad"
verdict_name None true = codes "good"
verdict_name (Some items) true = codes "bound"

-- the class of ends of this number
abbrev pub numbered_json : List PlainSexpr → List ℕ → List EndTold → ℕ → List ℕ
numbered_json forms servers ends number = optional (end_json forms servers) (slice_get ends number)

-- the ends, in the order in which they are told
abbrev pub ends_json : List PlainSexpr → List ℕ → EndsTold → List ℕ
ends_json forms servers told = array (map (numbered_json forms servers told.classes.items) told.order.items)

-- What `verify` tells of the script of this name: how many states there are, and whether every schedule was examined, or up to how many items; the
-- ends; the faults; how many items a schedule has that can't go on to an end; and the verdict.
unfoldable pub verify_json : List ℕ → List PlainSexpr → List ℕ → ℕ → Option ℕ → EndsTold → List FaultTold → Option ℕ → Bool → List ℕ
verify_json name forms servers states reach ends faults unending clean = line (object (member (codes "command") (json_string (codes "verify"))
    ∷ member (codes "script") (json_string name)
    ∷ member (codes "states") (decimal states)
    ∷ member (codes "whole") (truth (is_none reach))
    ∷ member (codes "items") (optional decimal reach)
    ∷ member (codes "ends") (ends_json forms servers ends)
    ∷ member (codes "faults") (array (map (fault_json forms servers) faults))
    ∷ member (codes "unending") (optional decimal unending)
    ∷ member (codes "verdict") (json_string (verdict_name reach clean)) ∷ []))

-- ---- what private functions say

-- how far the search came: the first members
unfoldable pub search_members : List ℕ → ℕ → Option ℕ → List ℕ
search_members name states reach = codes "{" ++ commas (member (codes "command") (json_string (codes "verify"))
    ∷ member (codes "script") (json_string name)
    ∷ member (codes "states") (decimal states)
    ∷ member (codes "whole") (truth (is_none reach))
    ∷ member (codes "items") (optional decimal reach) ∷ [])

-- what it found: the members behind those
unfoldable pub found_members : List PlainSexpr → List ℕ → EndsTold → List FaultTold → List ℕ
found_members forms servers ends faults = codes "," ++ commas (member (codes "ends") (ends_json forms servers ends)
    ∷ member (codes "faults") (array (map (fault_json forms servers) faults)) ∷ [])
