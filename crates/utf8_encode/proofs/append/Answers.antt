-- `utf8_encode::append` meets its contract: the octets of each row of the table, stored one behind the other.
use native.Mathlib.Omega.{arith}
use Rattle.utf8_scheme.specs.Inverse.{scalar_most}
use Rattle.utf8_encode.proofs.Stores.{lead_of_two, lead_of_three, lead_of_four, appends_one, appends_two, appends_three, appends_four}
use Rattle.utf8_encode.proofs.append.Goals as goal

pub returns-then-c-lt128 : goal.returns-then-c-lt128
returns-then-c-lt128 c =
    let put = c in
    appends_one _ put.if-c-lt128.true put.put.ensures

pub overflow_cast-c-then-c-lt2048 : goal.overflow_cast-c-then-c-lt2048
overflow_cast-c-then-c-lt2048 c = omega (arith, (lead_of_two _ c.if-c-lt2048.true).1)

pub returns-then-c-lt2048 : goal.returns-then-c-lt2048
returns-then-c-lt2048 c =
    let last = c in
    let lead = last in
    let row = lead in
    appends_two _ row.if-c-lt128.false row.if-c-lt2048.true (lead_of_two _ row.if-c-lt2048.true).0 lead.put-m.ensures last.put_tail.ensures

pub overflow_cast-c-then-c-lt65536 : goal.overflow_cast-c-then-c-lt65536
overflow_cast-c-then-c-lt65536 c = omega (arith, (lead_of_three _ c.if-c-lt65536.true).1)

pub returns-then-c-lt65536 : goal.returns-then-c-lt65536
returns-then-c-lt65536 c =
    let last = c in
    let mid = last in
    let lead = mid in
    let row = lead in
    appends_three _ row.if-c-lt2048.false row.if-c-lt65536.true (lead_of_three _ row.if-c-lt65536.true).0 lead.put-m-then-c-lt65536.ensures
    mid.put_tail-m.ensures last.put_tail-then-c-lt65536.ensures

pub overflow_cast-c-2 : goal.overflow_cast-c-2
overflow_cast-c-2 c =
    let start = c in
    omega (arith, (lead_of_four _ (scalar_most start.args.c start.requires.0)).1)

pub returns : goal.returns
returns c =
    let last = c in
    let third = last in
    let second = third in
    let lead = second in
    let row = lead in
    let start = row in
    appends_four _ row.if-c-lt65536.false (lead_of_four _ (scalar_most start.args.c start.requires.0)).0 lead.put-m-2.ensures
    second.put_tail-m-2.ensures third.put_tail-m-3.ensures last.put_tail-2.ensures
