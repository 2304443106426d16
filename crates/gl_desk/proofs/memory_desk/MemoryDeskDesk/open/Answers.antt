use Rattle.std.proofs.Common.{◌≡◌, ◌<◌, ◌∙◌, inl, inr, length, get_or, refl, ap, sym, subst, false, IsErr, arith}
use Rattle.std.proofs.lemmas.Result.{on_ok_weaker, on_err_weaker}
use Rattle.gl_desk.specs.Desk.{is_input, Opens, NotOpened}
use Rattle.gl_desk.specs.MemoryDesk.{held_by, wanted_of}
use Rattle.gl_desk.proofs.Seating.{others_kept, wants_kept, wants_here, shows_here, seat_does}
use Rattle.gl_desk.proofs.Opening.{opened, not_opened, content_there, no_content}
use Rattle.gl_desk.specs.Seats.{WantsOther, Starts}
use Rattle.gl_desk.proofs.memory_desk.MemoryDeskDesk.open.Goals as goal

pub returns-clause-others : goal.returns-clause-others
returns-clause-others c = others_kept c.args.self.now.seats c.args.slot c.place.result c.open.new.self c.place.ensures.place

pub returns-clause-names : goal.returns-clause-names
returns-clause-names c = record {
  same_held = λ slot name. refl;
  same_wants = wants_kept c.args.self.now.seats c.place.result c.open.new.self c.index-self-place.result c.open.ensures.wants;
}

pub returns-clause-opened : goal.returns-clause-opened
returns-clause-opened c =
    let seats = c.args.self.now.seats in
    let i = c.place.result in
    let d = c.index-self-place.result in
    let slot = c.args.slot in
    let holds = held_by c.args.self.now slot c.args.name.now in
    let within : i < length seats = omega arith in
    on_ok_weaker c.open.result
    (λ s. let there = content_there (get_or seats i d) c.open.new.self c.content_of-content.result s in
    seat_does (Opens slot holds) seats slot i c.open.new.self d c.place.ensures.place within
    (opened slot (is_input slot) refl holds (get_or seats i d) c.open.new.self there.0 (there.1 ∙ c.content_of-content.ensures) there.2))
    c.open.ensures.started

pub returns-clause-failed : goal.returns-clause-failed
returns-clause-failed c =
    let seats = c.args.self.now.seats in
    let i = c.place.result in
    let d = c.index-self-place.result in
    let slot = c.args.slot in
    let name = c.args.name.now in
    let within : i < length seats = omega arith in
    let wants = wants_here seats slot i d c.place.ensures.place within in
    let idle : (get_or seats i d).used ≡ false = ap (λ v. v.used) (shows_here seats slot i d c.place.ensures.place within) ∙ c.requires.free in
    on_err_weaker c.open.result
    (λ s. seat_does (NotOpened slot name (wanted_of c.args.self.now slot)) seats slot i c.open.new.self d c.place.ensures.place within
    (not_opened slot (is_input slot) name (wanted_of c.args.self.now slot) (get_or seats i d) c.open.new.self wants idle s))
    c.open.ensures.failed

pub returns-clause-refused : goal.returns-clause-refused
returns-clause-refused c =
    let seats = c.args.self.now.seats in
    let i = c.place.result in
    let d = c.index-self-place.result in
    let within : i < length seats = omega arith in
    let wants = wants_here seats c.args.slot i d c.place.ensures.place within in
    λ must. elim must as (λ must. IsErr c.open.result) [
      | inl named ↦ elim named as (λ named. IsErr c.open.result) [
        | inl other ↦ (c.open.ensures.other_name (subst (λ w. WantsOther w c.args.name.now) (sym wants) other)).0
        | inr due ↦ c.open.ensures.due (c.count-is_due.ensures.due.1 due)
      ]
      | inr none ↦ no_content (λ bytes. Starts (get_or seats i d) c.open.new.self bytes.now) c.open.result c.content_of-content.result (c.content_of-content.ensures ∙ none) c.open.ensures.started
    ]

pub returns-clause-other_name : goal.returns-clause-other_name
returns-clause-other_name c =
    let seats = c.args.self.now.seats in
    let i = c.place.result in
    let d = c.index-self-place.result in
    let slot = c.args.slot in
    let within : i < length seats = omega arith in
    let wants = wants_here seats slot i d c.place.ensures.place within in
    λ other. seat_does (λ v w. w ≡ v) seats slot i c.open.new.self d c.place.ensures.place within
    ((c.open.ensures.other_name (subst (λ w. WantsOther w c.args.name.now) (sym wants) other)).1.shows (is_input slot))

pub returns-clause-steady : goal.returns-clause-steady
returns-clause-steady c =
    let seats = c.args.self.now.seats in
    let i = c.place.result in
    let d = c.index-self-place.result in
    let within : i < length seats = omega arith in
    on_ok_weaker c.open.result
    (λ s. let there = content_there (get_or seats i d) c.open.new.self c.content_of-content.result s in
    seat_does (λ v w. w.faults ≡ v.faults) seats c.args.slot i c.open.new.self d c.place.ensures.place within there.2.faults)
    c.open.ensures.started
