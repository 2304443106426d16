use Rattle.std.proofs.Common.{◌≡◌, ◌∙◌, ap}
use Rattle.gl_graph.specs.Built.{circuit_of}
use Rattle.gl_graph.specs.Faults.{circuit_fault}
use Rattle.gl_history.proofs.SoundLaws.{only_memory}
use Rattle.gl_history.proofs.HistoryLaws as history
use Rattle.gl_history.proofs.circuit.with_devices.Goals as goal

pub returns-in-Ok : goal.returns-in-Ok
returns-in-Ok c =
    let pins = c.in_ok-pins.ensures.items_if_clones_equal (λ x y e. e) ∙ c.requires.pinned in
    let given : circuit_of c.in_ok-shapes.shapes.items c.args.devices.items c.nets-nets.result c.in_ok-rails.rails.items c.in_ok-pins.pins.items ≡ history.with_devices c.args.circuit.now c.args.devices.items =
    λ i. circuit_of (c.in_ok-shapes.ensures.shapes i) c.args.devices.items (c.nets-nets.ensures.count i) (c.in_ok-rails.ensures.rails i) (pins i) in
    record { circuit = c.in-Ok.ensures.answer.0 ∙ given }

pub want_of_memory-requires : goal.want_of_memory-requires
want_of_memory-requires c =
    let pins = c.in_ok-pins.ensures.items_if_clones_equal (λ x y e. e) ∙ c.requires.pinned in
    let given : circuit_of c.in_ok-shapes.shapes.items c.args.devices.items c.nets-nets.result c.in_ok-rails.rails.items c.in_ok-pins.pins.items ≡ history.with_devices c.args.circuit.now c.args.devices.items =
    λ i. circuit_of (c.in_ok-shapes.ensures.shapes i) c.args.devices.items (c.nets-nets.ensures.count i) (c.in_ok-rails.ensures.rails i) (pins i) in
    only_memory _ _ (ap circuit_fault given ∙ c.requires.sound) c.in-Err.ensures.answer
