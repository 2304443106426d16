use Rattle.std.proofs.Common.{List, ℕ, subst}
use Rattle.gl_text.specs.LogicalLines.{after_title, logical_lines, title_of}
use Rattle.gl_text.specs.Decks.{Deck}
use Rattle.gl_deck.specs.Drafts.{deck_behind, long_title}
use Rattle.gl_deck.specs.Refusals.{Gives}
use Rattle.gl_deck.proofs.TitleLaws.{read_on, not_refused, stopped, is_refused}
use Rattle.gl_deck.proofs.read.read_titled.Goals as goal

pub returns-in-Ok : goal.returns-in-Ok
returns-in-Ok c =
    let bytes = c.args.bytes.now in
    let short = c.in-Ok.ensures.short in
    let lines : List ℕ → List ℕ → Type 0 = λ title rest. Gives c.read_lines.result (deck_behind title (logical_lines 2 rest)) in
    let reads = subst (λ title. lines title (after_title bytes)) c.in-Ok.ensures.title (subst (λ rest. lines c.in-Ok.title.now rest) c.in-Ok.ensures.after c.read_lines.ensures.reads) in
    record {
      reads = read_on c.read_lines.result (long_title (title_of bytes)) (title_of bytes) (λ title. deck_behind title (logical_lines 2 (after_title bytes))) short reads;
      long_title = not_refused c.read_lines.result (long_title (title_of bytes)) short;
    }

pub returns-in-Err : goal.returns-in-Err
returns-in-Err c =
    let bytes = c.args.bytes.now in
    let refused = c.in-Err.ensures.refused in
    record {
      reads = stopped c.in-Err.fault (long_title (title_of bytes)) (title_of bytes) (λ title. deck_behind title (logical_lines 2 (after_title bytes))) refused;
      long_title = is_refused Deck c.in-Err.fault (long_title (title_of bytes)) refused;
    }
