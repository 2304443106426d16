-- What a command reads, by what its parse answers.
use Rattle.std.proofs.Common.{◌≡◌, ℕ, List, [], ◌∷◌, Bool, true, false, Some, None, refl, ap, sym, subst}
use Rattle.std.specs.Prelude.{◌&&◌}
use Rattle.clap.specs.Words.{App, Row, Kinds, IsAmong, fault_of, matches_of, is_simple, is_simple_and_free}
use Rattle.clap.specs.declared.error.kind.ErrorKind.{ErrorKind}
use Rattle.clap.proofs.OnLiterals.{clap_on_literals}
use Rattle.gl_words.specs.Reading.{unless_refused, words_read}
use Rattle.gl_words.specs.Commands.{lift_app, flat_app, restore_app}

pub ok_read : (app : App) (words : List (List ℕ)) (rows : List Row) → fault_of app words ≡ [] → rows ≡ matches_of app words → Some rows ≡ words_read app words
unfolding words_read
ok_read app words rows none is = subst (λ (kinds : Kinds). Some rows ≡ unless_refused kinds (matches_of app words)) (sym none) (ap Some is)

pub err_read : (app : App) (words : List (List ℕ)) (kind : ErrorKind) → IsAmong kind (fault_of app words) → None ≡ words_read app words
unfolding words_read
err_read app words kind among = by (fault_of app words) among where
  by : (kinds : Kinds) → IsAmong kind kinds → None ≡ unless_refused kinds (matches_of app words)
  by [] none = absurd none
  by (k ∷ ks) some = refl

both_left : (x y : Bool) → (x && y) ≡ true → x ≡ true
both_left true y e = refl
both_left false y e = e

pub simple_of : (app : App) → is_simple_and_free app ≡ true → is_simple app ≡ true
simple_of app h = both_left (is_simple app) _ h

pub lift_is_simple : is_simple_and_free lift_app ≡ true
unfolding lift_app clap_on_literals
lift_is_simple = refl

pub flat_is_simple : is_simple_and_free flat_app ≡ true
unfolding flat_app clap_on_literals
flat_is_simple = refl

pub restore_is_simple : is_simple_and_free restore_app ≡ true
unfolding restore_app clap_on_literals
restore_is_simple = refl
