use Rattle.std.proofs.Common.{◌≡◌, ◌∙◌, ◌++◌, ◌∷◌, [], ℕ, List, length, sym, ap, subst, arith}
use Rattle.std.proofs.lemmas.List.{with_items_is}
use Rattle.gl_match.specs.Keys.{Key}
use Rattle.gl_lifting.specs.Replacement.{Slot, made}
use Rattle.gl_history.specs.declared.fate.Fate.{Fate}
use Rattle.gl_history.specs.Replacing.{Chosen}
use Rattle.gl_history.specs.Marks.{fate_at, fate_by, IsMarked}
use Rattle.gl_history.proofs.MarkLaws.{marked_more}
use Rattle.gl_history.proofs.marks.add_chosen.Goals as goal

pub returns-clause-marked : goal.returns-clause-marked
returns-clause-marked c = λ before m.
    let set = c.args.key.now.set in
    let old = c.args.marks.now.fates in
    let slots = c.args.marks.now.slots in
    let index = c.len-index.result in
    let slot_for : List ℕ → Slot = λ nets. record { device = record { kind = c.args.kind; nets = nets }; origin = made c.args.number } in
    let chosen : Chosen = record { set = set; slot = slot_for c.args.key.now.binding } in
    let set_is : c.deref.result.now ≡ set = c.deref.ensures.value ∙ ap (λ (k : Key). k.set) c.key.view_is in
    let binding_is : c.deref-2.result.now ≡ c.args.key.now.binding = c.deref-2.ensures.value ∙ ap (λ (k : Key). k.binding) c.key.view_is in
    let as_many : length c.mark.new.fates ≡ old.len = c.mark.auto.fates ∙ ap length c.deref_mut.ensures.value ∙ sym old.ok.0 in
    let given : (dev : ℕ) → fate_at c.mark.new.fates dev ≡ fate_by dev set index (fate_at old.items dev) = λ dev. c.mark.ensures.marked dev ∙ (λ i. fate_by dev (set_is i) index (fate_at (c.deref_mut.ensures.value i) dev)) in
    let at : index ≡ length slots.items = omega (arith, c.len-index.ensures, slots.ok.0) in
    let slot_is : c.in_ok-new_slot.field-0 ≡ slot_for c.args.key.now.binding = c.in_ok-new_slot.ensures.slot ∙ ap slot_for binding_is in
    subst (λ (fs : List Fate). IsMarked (before ++ chosen ∷ []) fs c.push.new.self.items) (sym (with_items_is old c.mark.new.fates as_many))
    (marked_more before chosen old.items c.mark.new.fates slots.items c.push.new.self.items index m at given
    (c.in_ok-push.ensures.items ∙ ap (λ s. slots.items ++ s ∷ []) slot_is))
