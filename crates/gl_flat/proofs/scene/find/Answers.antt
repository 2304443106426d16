use Rattle.std.proofs.Common.{◌∙◌, sym, ap, option_map, refl, length}
use Rattle.std.proofs.lemmas.Bool.{ltb-true}
use Rattle.std.proofs.lemmas.Option.{slice_get_read}
use Rattle.gl_flat.proofs.SceneLaws.{ports_at_place}
use Rattle.gl_flat.proofs.scene.find.Goals as goal

pub returns-in_err-place-clause-found : goal.returns-in_err-place-clause-found
returns-in_err-place-clause-found c = ap (option_map (λ d. d.sub.now)) c.from_residual.ensures ∙ c.in_err-place.ensures.found

pub returns-clause-ports : goal.returns-clause-ports
returns-clause-ports c = ports_at_place (λ t. t.keys) c.args.scene.now.subs.now c.args.scene.now.ports.now c.in_ok-place.place c.in_ok-place.sub.now c.in_ok-ports.ports.now c.requires.scene.ports c.in_ok-place.ensures.place (sym (slice_get_read c.args.scene.now.ports.now (length c.args.scene.now.ports.now) c.in_ok-place.place c.in_ok-ports.ports.now refl (ltb-true c.in_ok-place.place (length c.args.scene.now.ports.now) (sym c.in_ok-ports.ensures.lookup.0)) c.in_ok-ports.ensures.lookup.1))
