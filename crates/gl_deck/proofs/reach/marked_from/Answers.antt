use Rattle.std.proofs.Common.{◌≡◌, ◌∙◌, ap, sym, subst, List, ℕ, [], ◌∷◌, length, ◌<◌}
use Rattle.std.proofs.lemmas.List.{append-nil}
use Rattle.std.specs.Prelude.{slice_get}
use Rattle.std.specs.List.{IsDistinct}
use Rattle.gl_text.specs.LogicalLines.{same_text}
use Rattle.gl_text.specs.Cards.{Head}
use Rattle.gl_text.specs.Decks.{steps}
use Rattle.gl_deck.specs.Bodies.{names_of}
use Rattle.gl_deck.specs.Walks.{Walk, marked_all, called_names}
use Rattle.gl_deck.proofs.Members.{among_in}
use Rattle.gl_lists.proofs.Membership.{in_head}
use Rattle.gl_deck.proofs.ReachLaws.{settled, keeps}
use Rattle.gl_deck.proofs.MarkLaws.{left}
use Rattle.gl_deck.proofs.WalkLaws.{IsWalk, begins, advances, less_left}
use Rattle.gl_deck.proofs.MarkedLaws.{walked}
use Rattle.gl_deck.proofs.reach.marked_from.Goals as goal

pub loop-place-init : goal.loop-place-init
loop-place-init c =
    let subs = c.args.subs.now in
    let t = c.args.target.now in
    let found = steps subs (length subs) (t ∷ []) in
    let distinct : IsDistinct same_text (names_of subs) = c.len.ensures.names_differ in
    let is = among_in t subs c.requires.among in
    let sized : length c.in_ok-walk.walk.marks ≡ length subs = c.in_ok-walk.ensures.sized ∙ c.len.ensures.len in
    let start = begins subs found t c.in_ok-walk.walk distinct is (keeps subs t (length subs) (t ∷ []) is (in_head t [])) sized c.in_ok-walk.ensures.nothing c.in_ok-walk.ensures.empty in
    let name : c.name.result.now ≡ t.head.name = c.name.ensures.name ∙ ap (λ (h : Head). h.name) c.head.ensures.head in
    let new : c.mark_name.new.self ≡ marked_all subs (t.head.name ∷ []) c.in_ok-walk.walk = c.in_ok-mark_name.ensures.marked ∙ ap (λ (n : List ℕ). marked_all subs (n ∷ []) c.in_ok-walk.walk) name in
    subst (λ (w : Walk). IsWalk subs found t w) (sym new) start

pub loop-place-smaller : goal.loop-place-smaller
loop-place-smaller c =
    let subs = c.args.subs.now in
    let w = c.loop-place.walk in
    let r = c.next.new.self in
    let less = less_left subs (called_names (slice_get subs c.in-Some.place)) w r c.in-Some.place (ap length c.next.ensures.marks ∙ c.loop-place.invariant.sized) c.next.ensures.marks c.in-Some.ensures.pending in
    subst (λ (v : Walk). left v < left w) (sym c.in_ok-look_at.ensures.marked) less

pub loop-place-preserved : goal.loop-place-preserved
loop-place-preserved c =
    let subs = c.args.subs.now in
    let t = c.args.target.now in
    let found = steps subs (length subs) (t ∷ []) in
    let walk = advances subs found t c.loop-place.walk c.next.new.self c.in-Some.place (settled subs t (among_in t subs c.requires.among)) c.loop-place.invariant c.next.ensures.marks c.in-Some.ensures.pending in
    subst (λ (w : Walk). IsWalk subs found t w) (sym c.in_ok-look_at.ensures.marked) walk

pub returns : goal.returns
returns c =
    let subs = c.args.subs.now in
    let t = c.args.target.now in
    let found = steps subs (length subs) (t ∷ []) in
    let distinct : IsDistinct same_text (names_of subs) = c.len.ensures.names_differ in
    let w = c.next.new.self in
    let same : c.loop-place.walk ≡ w = same_walk c.loop-place.walk w (sym c.next.ensures.marks) (c.in_default.ensures.pending ∙ append-nil w.pending) in
    let walk = subst (λ (v : Walk). IsWalk subs found t v) same c.loop-place.invariant in
    record { reached = walked subs t w distinct (among_in t subs c.requires.among) walk c.in_default.ensures.empty } where
      same_walk : (v w : Walk) → v.marks ≡ w.marks → v.pending ≡ w.pending → v ≡ w
      same_walk v w e f = ap (λ m. record v { marks = m }) e ∙ ap (λ p. record w { pending = p }) f
