-- Laws of the sections that name scalar values.
use mathlib.Core.Path.{◌≡◌, refl, sym, ap, ◌∙◌}
use mathlib.Core.Bool.{Bool, true, false, ◌&&◌}
use Rattle.lists.specs.Lists.{all}
use Rattle.lists.specs.Laws.{both_left}
use Rattle.table.specs.Table.{ClassRange, Table}
use Rattle.scalar.specs.Scalar.{is_scalar}
use Rattle.soundness.specs.Scalars.{scalars_between, scalar_ranges, scalar_headed, scalar_group, rule1}
use Rattle.sound_parts.specs.Parts.{ranges_scalar, records_scalar, others_scalar, scalar_whole}

regroup : (r m d e x c g w : Bool) → r && m && d && e && x && c && g && w ≡ r && (m && d && e && x) && (c && g && w)
regroup false m d e x c g w = refl
regroup true false d e x c g w = refl
regroup true true false e x c g w = refl
regroup true true true false x c g w = refl
regroup true true true true false c g w = refl
regroup true true true true true false g w = refl
regroup true true true true true true false w = refl
regroup true true true true true true true w = refl

-- rule 1, section by section
pub rule1_parts : (t : Table) → rule1 t ≡ ranges_scalar t && records_scalar t && others_scalar t && scalar_ranges t.escape && scalar_ranges t.quick_check
unfolding rule1 ranges_scalar records_scalar others_scalar
rule1_parts t =
    ap (λ (b : Bool). b && scalar_ranges t.escape && scalar_ranges t.quick_check)
    (regroup (ranges_scalar t) (scalar_headed t.mapped) (scalar_headed t.decompositions) (all (all is_scalar) t.emoji) (all is_scalar t.exclusions)
    (all (λ (r : ClassRange). scalars_between r.first r.last) t.classes)
    (all scalar_group t.groups)
    (all scalar_whole t.wholes))

-- what it says of the sections of 01
pub rule1-first : (t : Table) → rule1 t ≡ true → (ranges_scalar t && records_scalar t && others_scalar t) ≡ true
rule1-first t h =
    let a : Bool = ranges_scalar t && records_scalar t && others_scalar t in
    let e : Bool = scalar_ranges t.escape in
    both_left a e (both_left (a && e) (scalar_ranges t.quick_check) (sym (rule1_parts t) ∙ h))
