use Rattle.std.proofs.Common.{◌≡◌, ◌∙◌, ap, subst}
use Rattle.gl_lifting.specs.NameMaps.{under}
use Rattle.gl_found.specs.Founds.{Found, sub_at}
use Rattle.gl_named.specs.Firsts.{at_number}
use Rattle.gl_named.specs.Kept.{Keeps}
use Rattle.gl_named.specs.Walks.{plan_of, rows_at, way_text, with_rows}
use Rattle.gl_named.proofs.WalkLaws.{plan_found}
use Rattle.gl_named.proofs.renames.add_found.Goals as goal

pub returns-in-Some : goal.returns-in-Some
returns-in-Some c =
    let found = c.args.found.now in
    let stem = c.args.stem.now in
    let new = c.add_rows.new.names in
    let k = c.found.inside.number in
    let cell : c.found.inside.cell ≡ found.cell = ap (λ (f : Found). f.cell) c.found.view_is in
    let number : k ≡ found.number = ap (λ (f : Found). f.number) c.found.view_is in
    record {
      added = λ rails subs rows plans keeps.
          let plan = plan_found rails subs c.args.plans.now c.found.inside.cell c.in-Some.plan.now plans c.in-Some.ensures.lookup.3.0 c.in-Some.ensures.lookup.1 ∙ ap (λ n. plan_of rails (sub_at subs n)) cell in
          let way : c.as_bytes.result.now ≡ way_text stem (under rows.ways found.number) found.number =
          c.as_bytes.ensures.bytes
          ∙ c.in_ok-way.ensures.way
          ∙ ap (λ t. way_text stem (at_number t k) k) c.deref.ensures.value
          ∙ ap (λ o. way_text stem o k) (keeps.ways k)
          ∙ ap (λ n. way_text stem (under rows.ways n) n) number in
          subst (λ w. Keeps new (with_rows rows (rows_at (plan_of rails (sub_at subs found.cell)) found w))) way
          (subst (λ p. Keeps new (with_rows rows (rows_at p found c.as_bytes.result.now))) plan (c.in_ok-add_rows-in-Some.ensures.added rows keeps));
    }
