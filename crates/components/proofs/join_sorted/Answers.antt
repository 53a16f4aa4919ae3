-- `components::join_sorted` meets its contract: claims are set for the groups, and their owners joined.
use Rattle.components.proofs.JoinLaws.{claims_none, sorted_joins}
use Rattle.components.proofs.join_sorted.Goals as goal

pub take_groups-requires : goal.take_groups-requires
take_groups-requires c =
    let p = c.requires in
    record { groups_part = p.groups_part; xs_value = p.xs_value.0; xs_len_bound = p.xs_value.1; claims = claims_none _ p.numbers }

pub returns : goal.returns
returns c = sorted_joins _ _ _ _ _ _ c.take_groups.ensures c.sweep.ensures
