-- The tests of a text and its places in the buffers, each from what the steps before leave.
use Prim.Native.Nat.{ℕ, ◌+◌, ◌≤◌, ◌<◌}
use native.Mathlib.Omega.{arith}
use mathlib.Core.Path.{◌≡◌, refl, sym, ap, ◌∙◌, subst}
use mathlib.Core.List.{List, ◌++◌, map}
use lib.ListN.{length, take, drop, length-map}
use lib.Seq.{sets-eq, take_at, length_front, length-sets, length-take-le}
use borrow.Author.Tests.{le-leb, lt-leb}
use Rattle.limits.specs.Limits.{most_worked}
use Rattle.answers.specs.Verdict.{accepted}
use Rattle.table.specs.Table.{Table}
use Rattle.text.specs.Decomposition.{class_of, four_rounds}
use Rattle.text.specs.Ordering.{nfd}
use Rattle.ordering.specs.Sorting.{sort_by}
use Rattle.ordering.proofs.SortingLaws.{length_sort, map_sort, order_sort, sort_in_order}
use Rattle.decomposition.specs.Rounds.{Appended}
use Rattle.composition.specs.Work.{Ready}
use Rattle.std.specs.Prelude.{Ok}
use Rattle.full_decomposition.specs.declared.FormError.TheVariants.{WorkedTooLong, WorkAreaTooSmall, BufferTooSmall}
use Rattle.full_decomposition.specs.Within.{FormAnswer, form_within}
use Rattle.full_decomposition.specs.Promise.{Arranged, Ordered, RefusedAs, Standing}

-- the text and its classes, sorted by these, are the text in order with its own classes
pub arranged : (t : Table) (d ks text classes : List ℕ) → ks ≡ map (class_of t) d → text ≡ sort_by ks d → classes ≡ sort_by ks ks → Arranged t d text classes
arranged t d ks text classes e q k =
    let f : ℕ → ℕ = class_of t in
    let l : length ks ≡ length d = rw e (length-map d f) in
    let own : map f text ≡ sort_by ks ks = rw (q, map_sort f ks d, ← e) in
    record {
      is = q ∙ rw e (sym (order_sort t d));
      ready = record { classes = k ∙ sym own; ordered = rw k (sort_in_order ks) };
      same = rw q (length_sort ks d l);
      same-classes = rw k (length_sort ks ks refl) ∙ l;
    }

-- the tests of a text, in turn
module _ (t : Table) (text : List ℕ) (room work : ℕ) where
  pub too_long : most_worked < length (four_rounds t text) → RefusedAs t text room work WorkedTooLong
  unfolding form_within
  too_long h form = rw (lt-leb (length (four_rounds t text)) most_worked h)

  module _ (n : ℕ) (short : n ≤ most_worked) (e : n ≡ 0 + length (four_rounds t text)) where
    long : length (four_rounds t text) ≡ n
    long = omega arith

    pub no_work : work < n → RefusedAs t text room work WorkAreaTooSmall
    unfolding form_within
    no_work h form = rw (long, le-leb n most_worked short, lt-leb n work h)

    pub no_room : n ≤ work → room < n → RefusedAs t text room work BufferTooSmall
    unfolding form_within
    no_room w h form = rw (long, le-leb n most_worked short, le-leb n work w, lt-leb n room h)

    passes : n ≤ work → n ≤ room → (form : Table → List ℕ → List ℕ) → form_within form t text room work ≡ accepted (form t text)
    unfolding form_within
    passes w h form = rw (long, le-leb n most_worked short, le-leb n work w, le-leb n room h)

-- the four rounds stand at the front of a buffer that has room for them
front_rounds : (out out' d : List ℕ) (n : ℕ) → Appended out out' 0 d n → n ≤ length out → take n out' ≡ d
front_rounds out out' d n w h =
    let l : length d ≡ n = omega (arith, w.end) in
    rw (w.put, sets-eq d out 0 (omega arith)) (take_at d (drop (0 + length d) out) n l)

-- the front of a buffer, once ys have come back in its place
put_front : (n : ℕ) (ys s : List ℕ) → length ys ≡ n → take n (ys ++ drop n s) ≡ ys
put_front n ys s e = take_at ys (drop n s) n e

-- the text is decomposed, and put into order in the front of the two buffers
pub ordered : (t : Table) (text answer out work part classes : List ℕ) (n : ℕ) → n ≤ most_worked → Appended answer out 0 (four_rounds t text) n
    → n ≤ length work → n ≤ length out → Arranged t (take n out) part classes → Ordered t text answer (part ++ drop n out) work (classes ++ drop n work) n
unfolding nfd
ordered t text answer out work part classes n short w hw ho a =
    let same : length out ≡ length answer = ap length w.put ∙ length-sets answer 0 (four_rounds t text) in
    let ha : n ≤ length answer = omega arith in
    let d : take n out ≡ four_rounds t text = front_rounds answer out (four_rounds t text) n w ha in
    let is : part ≡ nfd t text = rw d at a.is in
    let long : length (take n out) ≡ n = length-take-le n out ho in
    let lp : length part ≡ n = a.same ∙ long in
    let lc : length classes ≡ n = a.same-classes ∙ long in
    record {
      passes = passes t text (length answer) (length work) n short w.end hw ha;
      count = rw (← is) (sym lp);
      front = put_front n part out lp ∙ is;
      ready = rw (put_front n classes work lc, ← is) a.ready;
      room = rw (length_front out part n a.same) ho;
      work-room = rw (length_front work classes n (lc ∙ sym (length-take-le n work hw))) hw;
    }

-- NFD stands there, once the answer is known
pub standing_formed : (t : Table) (text answer answer' work work' : List ℕ) (r : FormAnswer) (n : ℕ) → r ≡ Ok n → Standing t text answer answer' work work' r
    → Ordered t text answer answer' work work' n
standing_formed t text answer answer' work work' r n e o = subst (λ (x : FormAnswer). Standing t text answer answer' work work' x) e o

-- what composition asks
pub ordered_ready : (t : Table) (text answer answer' work work' : List ℕ) (n : ℕ) → Ordered t text answer answer' work work' n → Ready t (take n answer') (take n work')
ordered_ready t text answer answer' work work' n o = rw o.front o.ready
