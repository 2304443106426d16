-- Answers that pass a refusal on, and chains of them.
use Rattle.std.proofs.Common.{◌≡◌, List, [], ◌∷◌, ◌++◌, Option, Some, None, Result, Ok, Err, refl, sym, ap, ◌∙◌, subst}
use Rattle.std.specs.Prelude.{IfErr}
use Rattle.std.specs.Option.{option_or}
use Rattle.std.specs.Result.{IsErrAnd}
use Rattle.gl_fault.specs.Refusals.{first_some, or_else, ◌>>=◌, IsRefusal, IsFound, Refuses, GivesAs, GivesOf}
use Rattle.gl_fault.proofs.FirstLaws.{first_more}

-- ---- of the refusal that was given

-- a refusal of what comes first is one of the whole
pub through : {F A B : Type 0} (o : Option F) (x : Result A F) (k : A → Result B F) → IsRefusal o x → IsRefusal o (x >>= k)
through None x k h = tt
through (Some g) x k h = ap (λ r. r >>= k) h

-- the refusal that there is refuses what was to be given
pub refused_by : {F A : Type 0} (o w : Option F) (x : A) → IsFound o w → IsRefusal o (or_else w x)
refused_by None w x h = tt
refused_by (Some g) w x h = ap (λ v. or_else v x) h

pub same_refusal : {F V : Type 0} (o p : Option F) (w : Result V F) → o ≡ p → IsRefusal p w → IsRefusal o w
same_refusal {V = V} o p w e h = subst (λ q. IsRefusal {V = V} q w) (sym e) h

pub found_exact : {F : Type 0} (o w : Option F) → o ≡ w → IsFound o w
found_exact None w e = tt
found_exact (Some g) w e = sym e

-- ---- an answer that passes a refusal on

pub passed_on : {E F V W : Type 0} (meaning : E → Option F) (r : Result V E) (f : E) (w : Result W F) → IsErrAnd r (λ e. e ≡ f) → IsRefusal (meaning f) w → IfErr r (λ e. IsRefusal (meaning e) w)
passed_on meaning (Ok v) f w e h = tt
passed_on {W = W} meaning (Err g) f w e h = subst (λ x. IsRefusal {V = W} (meaning x) w) (sym e) h

pub found_on : {E F V : Type 0} (meaning : E → Option F) (r : Result V E) (f : E) (w : Option F) → IsErrAnd r (λ e. e ≡ f) → IsFound (meaning f) w → IfErr r (λ e. IsFound (meaning e) w)
found_on meaning (Ok v) f w e h = tt
found_on meaning (Err g) f w e h = subst (λ x. IsFound (meaning x) w) (sym e) h

pub gives_refusal : {E F V W : Type 0} (meaning : E → Option F) (seen : V → W) (r : Result V E) (f : E) (w : Result W F) → IsErrAnd r (λ e. e ≡ f) → IsRefusal (meaning f) w → GivesAs meaning seen r w
gives_refusal meaning seen (Ok v) f w e h = absurd e
gives_refusal {W = W} meaning seen (Err g) f w e h = subst (λ x. IsRefusal {V = W} (meaning x) w) (sym e) h

pub gives_of_refusal : {E F V W : Type 0} (meaning : E → Option F) (M : V → W → Type 0) (r : Result V E) (f : E) (w : Result W F) → IsErrAnd r (λ e. e ≡ f) → IsRefusal (meaning f) w → GivesOf meaning M r w
gives_of_refusal meaning M (Ok v) f w e h = absurd e
gives_of_refusal {W = W} meaning M (Err g) f w e h = subst (λ x. IsRefusal {V = W} (meaning x) w) (sym e) h

-- ---- a refusal exactly where one is wanted

-- two that are looked for in turn
pub or_by : {E F : Type 0} (meaning : E → Option F) (a b : Option E) (x y : Option F) → Refuses meaning a x → Refuses meaning b y → Refuses meaning (option_or a b) (option_or x y)
or_by meaning None b None y p q = q
or_by meaning None b (Some f) y p q = absurd cc
or_by meaning (Some e) b None y p q = absurd cc
or_by meaning (Some e) b (Some f) y p q = p

-- one in front of others
pub or_more : {E F : Type 0} (meaning : E → Option F) (a b : Option E) (x : Option F) (xs : List (Option F)) → Refuses meaning a x → Refuses meaning b (first_some xs) → Refuses meaning (option_or a b) (first_some (x ∷ xs))
or_more meaning None b None xs p q = q
or_more meaning None b (Some f) xs p q = absurd cc
or_more meaning (Some e) b None xs p q = absurd cc
or_more meaning (Some e) b (Some f) xs p q = p

-- one behind others
pub or_last : {E F : Type 0} (meaning : E → Option F) (xs : List (Option F)) (y : Option F) (a b o : Option E) → o ≡ option_or a b → Refuses meaning a (first_some xs) → Refuses meaning b y → Refuses meaning o (first_some (xs ++ y ∷ []))
or_last {E = E} meaning xs y a b o e p q =
    let both : Refuses meaning (option_or a b) (first_some (xs ++ y ∷ [])) = subst (Refuses meaning (option_or a b)) (first_more xs y) (or_by meaning a b (first_some xs) y p q) in
    let P : Option E → Type 0 = λ g. Refuses meaning g (first_some (xs ++ y ∷ [])) in
    subst P (sym e) both

-- one alone
pub one : {E F : Type 0} (meaning : E → Option F) (x : Option F) (a : Option E) → Refuses meaning a x → Refuses meaning a (first_some (x ∷ []))
one meaning None a p = p
one meaning (Some f) a p = p

-- none is given, so none is wanted
pub none_is : {E F : Type 0} (meaning : E → Option F) (w : Option F) → Refuses meaning None w → w ≡ None
none_is meaning None p = refl
none_is meaning (Some f) p = absurd cc

-- one is given, so it is the wanted one
pub given : {E F V : Type 0} (meaning : E → Option F) (f : E) (w : Option F) (x : V) → Refuses meaning (Some f) w → IsRefusal (meaning f) (or_else w x)
given meaning f None x p = absurd cc
given {F = F} {V = V} meaning f (Some g) x p =
    let P : Option F → Type 0 = λ o. IsRefusal {V = V} o (Err g) in
    subst P (sym (inner (meaning f) (Some g) p)) refl
  where
    inner : {A : Type 0} (x y : A) → Some x ≡ Some y → x ≡ y
    inner x y e = cc

pub refused_is : {E F V : Type 0} (meaning : E → Option F) (f : E) (o : Option E) (w : Option F) (x : V) → o ≡ Some f → Refuses meaning o w → IsRefusal (meaning f) (or_else w x)
refused_is {E = E} meaning f o w x e p =
    let P : Option E → Type 0 = λ g. Refuses meaning g w in
    given meaning f w x (subst P e p)

pub passed_is : {E F V : Type 0} (meaning : E → Option F) (o : Option E) (w : Option F) (x y : V) → o ≡ None → Refuses meaning o w → y ≡ x → or_else w x ≡ Ok y
passed_is {E = E} meaning o w x y e p same =
    let P : Option E → Type 0 = λ g. Refuses meaning g w in
    ap (λ v. or_else v x) (none_is meaning w (subst P e p)) ∙ ap (λ z. Ok z) (sym same)

-- a refusal of the front is one of the whole
pub refused_first : {F V : Type 0} (o n : Option F) (x : V) (more : List (Option F)) → IsRefusal o (or_else n x) → IsRefusal o (or_else (first_some (n ∷ more)) x)
refused_first None n x more p = tt
refused_first (Some f) None x more p = absurd cc
refused_first (Some f) (Some g) x more p = p

-- the front is not refused, so a refusal of what is behind is one of the whole
pub refused_behind : {F V : Type 0} (o n : Option F) (x y : V) (more : List (Option F)) → or_else n x ≡ Ok y → IsRefusal o (or_else (first_some more) x) → IsRefusal o (or_else (first_some (n ∷ more)) x)
refused_behind o None x y more p q = q
refused_behind o (Some f) x y more p q = absurd cc
