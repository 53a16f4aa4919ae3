-- `bit_sets::put_point` meets its contract.
use Rattle.bit_sets.proofs.PutLaws.{put_none, put_same, point_place, point_before, point_behind}
use Rattle.bit_sets.proofs.put_point.Goals as goal

pub returns-then-c-base : goal.returns-then-c-base
returns-then-c-base c =
    let args' = c.args in
    let if1' = c.if-c-base in
    put_none _ _ (λ d h. point_before args'.base args'.c d if1'.true)

pub returns-then-d-lt-WINDOW : goal.returns-then-d-lt-WINDOW
returns-then-d-lt-WINDOW c =
    let args' = c.args in
    let if1' = c.if-c-base in
    let put' = c.put in
    put_same _ _ _ _ (λ d h. point_place args'.base args'.c d if1'.false) put'.ensures

pub returns-else-d-lt-WINDOW : goal.returns-else-d-lt-WINDOW
returns-else-d-lt-WINDOW c =
    let args' = c.args in
    let if1' = c.if-c-base in
    let if2' = c.if-d-lt-WINDOW in
    let pre' = c.requires in
    put_none _ _ (λ d h. point_behind args'.base args'.c d _ if1'.false if2'.false pre' h)
