use Rattle.std.proofs.Common.{◌≡◌, ◌≤◌, ◌++◌, filter, map, drop}
use Rattle.cml_explore.specs.Stops.{is_saved}
use Rattle.cml_host.specs.Exploring.{files_behind, none_seen}
use Rattle.cml_host.specs.Replies.{plain_file}
use Rattle.cml_host.proofs.explore.told_files.Given as goal

-- the files of the classes so far, and those of the ones that are left
abbrev pub invariant-loop-class : goal.invariant-loop-class
invariant-loop-class l = record {
  files : map plain_file l.files.items ++ files_behind l.start l.budget l.program l.classes l.seen (filter (is_saved l.runs) (drop l.class-index l.told))
      ≡ files_behind l.start l.budget l.program l.classes none_seen (filter (is_saved l.runs) l.told);
  bad : l.seen.bad ≤ l.class-index;
  good : l.seen.good ≤ l.class-index;
}
