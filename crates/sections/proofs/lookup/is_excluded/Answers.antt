-- `sections::lookup::is_excluded` meets its contract: behind its count the section is the items.
use native.Mathlib.Omega.{arith}
use Rattle.sections.proofs.SectionLaws.{laid_small}
use Rattle.sections.proofs.LaidParts.{laid-excluded}
use Rattle.sections.proofs.lookup.is_excluded.Goals as goal

pub overflow_add-items : goal.overflow_add-items
overflow_add-items c =
    let l = c.requires in
    let x = laid-excluded _ _ l in
    omega (arith, x.some_left, x.fits.inside, laid_small _ _ l)

pub mem_section-requires : goal.mem_section-requires
mem_section-requires c = let l = c.requires in ((laid-excluded _ _ l).fits, l.known.exclusions)

pub returns : goal.returns
returns c = rw (← (laid-excluded _ _ c.requires).same) c.mem_section.ensures
