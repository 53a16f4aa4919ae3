-- `sound_rounds::starts::start_in` meets its contract.
use Rattle.sound_rounds.proofs.ReachLaws.{start_heads, start_groups}
use Rattle.sound_rounds.proofs.starts.start_in.Goals as goal

pub returns-then-headed : goal.returns-then-headed
returns-then-headed c =
    let if1' = c.if-headed in
    let heads-in' = c.heads_in in
    start_heads _ _ _ _ _ if1'.true heads-in'.ensures

pub returns-else-headed : goal.returns-else-headed
returns-else-headed c =
    let if1' = c.if-headed in
    let groups-in' = c.groups_in in
    start_groups _ _ _ _ _ if1'.false groups-in'.ensures
