use Rattle.cml_explore.proofs.Crossing.{program_crosses}
use Rattle.cml_explore.proofs.share.take_all.Goals as goal

pub map_indices-requires-sync-F : goal.map_indices-requires-sync-F
map_indices-requires-sync-F g c κs within = search program_crosses depth 60 fits 100000
