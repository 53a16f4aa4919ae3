use Rattle.group_claims.proofs.ClaimLaws.{first-between}
use Rattle.group_claims.proofs.first.Goals as goal

pub returns : goal.returns
returns c = rw (c.unwrap_or.ensures, c.copied.ensures, c.first.ensures.value) (first-between _ c.requires)
