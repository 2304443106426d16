use Rattle.std.proofs.Common.{◌≡◌, ◌∙◌, ◌++◌, ◌∷◌, [], ap, map, List, ℕ}
use Rattle.gl_card.specs.Lines.{spaced_all}
use Rattle.gl_base.specs.BaseCircuit.{nets_of}
use Rattle.gl_base.specs.Reports.{name_at}
use Rattle.gl_base.specs.RoundReports.{instance_name}
use Rattle.gl_base.specs.Rounds.{cards_of}
use Rattle.gl_lifting.specs.Variants.{variant_of}
use Rattle.gl_write.proofs.LineLaws.{call_words}
use Rattle.gl_write.proofs.device.put_made.Goals as goal

pub returns : goal.returns
returns c = record {
  ok =
      let out = c.args.out.now.items in
      let scene = c.args.scene.now in
      let nets = nets_of (cards_of scene.flat.now) in
      let name = instance_name scene.stem.now c.args.number in
      let nodes = map (name_at nets) c.args.nets.now in
      let sub = name_at scene.names.now (variant_of scene.numbers.now c.args.number) in
      let names : c.items.result.now ≡ nets = c.items.ensures.items ∙ c.nets.ensures.nets in
      let word = c.name_or_empty.ensures.name ∙ ap (name_at scene.names.now) c.number_in-variant.ensures.number in
      let b = c.in_ok-put_nets.ensures.ok ∙ ap (λ (ns : List (List ℕ)). c.put_instance_name.new.out.items ++ spaced_all (map (name_at ns) c.args.nets.now)) names ∙ ap (λ t. t ++ spaced_all nodes) c.in_ok-put_instance_name.ensures.ok in
      let e = c.in_ok-put_word.ensures.ok ∙ ap (λ (w : List ℕ). c.put_nets.new.out.items ++ spaced_all (w ∷ [])) word ∙ ap (λ t. t ++ spaced_all (sub ∷ [])) b in
      c.in_ok-put.ensures.ok ∙ ap (λ t. t ++ 10 ∷ []) e ∙ call_words out name nodes sub;
}
