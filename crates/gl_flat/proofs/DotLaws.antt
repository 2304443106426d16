-- Flat names behind X cards hold a dot; a net without one has its flat name alone.
use Rattle.std.proofs.Common.{◌≡◌, ℕ, List, [], ◌∷◌, ◌++◌, Bool, true, false, cond, not, refl, sym, ap, ◌∙◌, filter}
use Rattle.std.specs.Prelude.{◌||◌, ◌&&◌, ◌==◌, codes}
use Rattle.std.specs.List.{list_any}
use Rattle.std.proofs.lemmas.List.Folds.{list_any-append}
use Rattle.gl_lists.proofs.Bools.{and_not_itself}
use Rattle.gl_fault.proofs.FirstLaws.{only}
use Rattle.gl_text.specs.LogicalLines.{name_clash, same_text}
use Rattle.gl_fault.specs.Refusals.{first_some, when}
use Rattle.gl_text.specs.Flattening.{Net, Bearer, device, net, net_name, path_text, same_path, clash, first_clash}
use Rattle.gl_text.proofs.Names.{exact}
use Rattle.gl_flat.specs.SeenNames.{has_dot, is_below, may_clash, plain_names}

pub or_true : (a : Bool) → (a || true) ≡ true
or_true true = refl
or_true false = refl

pub no_more : (a : Bool) → (a || (false || false)) ≡ a
no_more true = refl
no_more false = refl

-- ---- dots

before_dot : (xs ys : List ℕ) → has_dot xs ≡ true → has_dot (xs ++ ys) ≡ true
before_dot xs ys e = list_any-append (λ b. b == 46) xs ys ∙ ap (λ c. c || has_dot ys) e

-- a way holds one
pub way_dot : (x : List ℕ) (xs : List (List ℕ)) → has_dot (path_text (x ∷ xs)) ≡ true
way_dot x xs = before_dot (x ++ codes ".") (path_text xs) (list_any-append (λ b. b == 46) x (codes ".") ∙ or_true (has_dot x))

-- and so does the flat name of a net behind X cards
pub net_dot : (x : List ℕ) (xs : List (List ℕ)) (name : List ℕ) → has_dot (net_name (record { path = x ∷ xs; name = name })) ≡ true
net_dot x xs name = before_dot (path_text (x ∷ xs)) name (way_dot x xs)

-- where there is a way
pub below_dot : (path : List (List ℕ)) (name : List ℕ) → is_below path ≡ true → has_dot (net_name (record { path = path; name = name })) ≡ true
below_dot [] name h = absurd cc
below_dot (x ∷ xs) name h = net_dot x xs name

-- and of a device
pub device_dot : (b : ℕ) (rest : List ℕ) → has_dot (b ∷ 46 ∷ rest) ≡ true
device_dot b rest = or_true (b == 46)

-- ---- nets without a dot

apart_by : (b : Bool) (m k : List ℕ) (c : Bool) → same_text m k ≡ b → has_dot m ≡ false → has_dot k ≡ true → (b && c) ≡ false
apart_by true m k c e f g = let h : false ≡ true = sym f ∙ ap has_dot (exact m k e) ∙ g in absurd cc
apart_by false m k c e f g = refl

apart_back : (b : Bool) (m k : List ℕ) (c : Bool) → same_text m k ≡ b → has_dot m ≡ true → has_dot k ≡ false → (b && c) ≡ false
apart_back true m k c e f g = let h : true ≡ false = sym f ∙ ap has_dot (exact m k e) ∙ g in absurd cc
apart_back false m k c e f g = refl

abbrev at : List (List ℕ) → List ℕ → Net
at path name = record { path = path; name = name }

plain_by : (mp : List (List ℕ)) (mn : List ℕ) (kp : List (List ℕ)) (kn : List ℕ) → has_dot (net_name (at mp mn)) ≡ false → clash (net (at mp mn)) (net (at kp kn)) ≡ false
plain_by (x ∷ xs) mn kp kn e = let h : true ≡ false = sym (net_dot x xs mn) ∙ e in absurd cc
plain_by [] mn [] kn e = and_not_itself (same_text mn kn)
plain_by [] mn (y ∷ ys) kn e = apart_by (same_text mn (net_name (at (y ∷ ys) kn))) mn (net_name (at (y ∷ ys) kn)) (not (same_path [] (y ∷ ys) && same_text mn kn)) refl e (net_dot y ys kn)

-- it clashes with none
plain_apart : (m k : Net) → has_dot (net_name m) ≡ false → clash (net m) (net k) ≡ false
plain_apart m k e = plain_by m.path m.name k.path k.name e

plain_clash : (m : Net) (before : List Bearer) → has_dot (net_name m) ≡ false → list_any (clash (net m)) before ≡ false
plain_clash m [] e = refl
plain_clash m (device n ∷ bs) e = plain_clash m bs e
plain_clash m (net k ∷ bs) e = ap (λ c. c || list_any (clash (net m)) bs) (plain_apart m k e) ∙ plain_clash m bs e

-- and nothing else with it
others_apart : (b : Bearer) (m : Net) → may_clash b ≡ true → has_dot (net_name m) ≡ false → clash b (net m) ≡ false
others_apart (device n) m e f = refl
others_apart (net k) m e f = apart_back (same_text (net_name k) (net_name m)) (net_name k) (net_name m) (not (same_path k.path m.path && same_text k.name m.name)) refl e f

-- ---- the first clash is among the others

abbrev Same : List Bearer → List Bearer → Type 0
Same xs ys = (b : Bearer) → may_clash b ≡ true → list_any (clash b) xs ≡ list_any (clash b) ys

same_more : (xs ys : List Bearer) (c : Bearer) → Same xs ys → Same (xs ++ c ∷ []) (ys ++ c ∷ [])
same_more xs ys c h b e = list_any-append (clash b) xs (c ∷ []) ∙ ap (λ t. t || (clash b c || false)) (h b e) ∙ sym (list_any-append (clash b) ys (c ∷ []))

same_plain : (xs ys : List Bearer) (m : Net) → has_dot (net_name m) ≡ false → Same xs ys → Same (xs ++ net m ∷ []) ys
same_plain xs ys m f h b e = list_any-append (clash b) xs (net m ∷ []) ∙ ap (λ c. list_any (clash b) xs || (c || false)) (others_apart b m e f) ∙ no_more (list_any (clash b) xs) ∙ h b e

net_by : (b : Bool) (m : Net) (bs xs ys : List Bearer) → has_dot (net_name m) ≡ b → Same xs ys → ((us vs : List Bearer) → Same us vs → first_clash us bs ≡ first_clash vs (filter may_clash bs))
    → first_clash xs (net m ∷ bs) ≡ first_clash ys (cond b (net m ∷ filter may_clash bs) (filter may_clash bs))
net_by true m bs xs ys e h r =
    ap (λ c. first_some (when c (name_clash (net_name m)) ∷ first_clash (xs ++ net m ∷ []) bs ∷ [])) (h (net m) e)
    ∙ ap (λ o. first_some (when (list_any (clash (net m)) ys) (name_clash (net_name m)) ∷ o ∷ [])) (r (xs ++ net m ∷ []) (ys ++ net m ∷ []) (same_more xs ys (net m) h))
net_by false m bs xs ys e h r =
    ap (λ c. first_some (when c (name_clash (net_name m)) ∷ first_clash (xs ++ net m ∷ []) bs ∷ [])) (plain_clash m xs e)
    ∙ only (first_clash (xs ++ net m ∷ []) bs) ∙ r (xs ++ net m ∷ []) ys (same_plain xs ys m e h)

passed_by : (bs xs ys : List Bearer) → Same xs ys → first_clash xs bs ≡ first_clash ys (filter may_clash bs)
passed_by [] xs ys h = refl
passed_by (device n ∷ bs) xs ys h =
    ap (λ c. first_some (when c (name_clash n) ∷ first_clash (xs ++ device n ∷ []) bs ∷ [])) (h (device n) refl)
    ∙ ap (λ o. first_some (when (list_any (clash (device n)) ys) (name_clash n) ∷ o ∷ [])) (passed_by bs (xs ++ device n ∷ []) (ys ++ device n ∷ []) (same_more xs ys (device n) h))
passed_by (net m ∷ bs) xs ys h = net_by (has_dot (net_name m)) m bs xs ys refl h (passed_by bs)

-- nets without a dot may be passed over
pub plain_passed : (before bs : List Bearer) → first_clash before bs ≡ first_clash before (filter may_clash bs)
plain_passed before bs = passed_by bs before before (λ b e. refl)

kept_by : (b : Bool) (m : Net) (bs : List Bearer) → plain_names (filter may_clash bs) ≡ plain_names bs → plain_names (cond b (net m ∷ filter may_clash bs) (filter may_clash bs)) ≡ plain_names bs
kept_by true m bs h = h
kept_by false m bs h = h

named_by : (b : Bool) (n : List ℕ) (xs ys : List (List ℕ)) → xs ≡ ys → cond b xs (n ∷ xs) ≡ cond b ys (n ∷ ys)
named_by b n xs ys e = ap (λ zs. cond b zs (n ∷ zs)) e

-- the devices all stay
pub plain_kept : (bs : List Bearer) → plain_names (filter may_clash bs) ≡ plain_names bs
plain_kept [] = refl
plain_kept (device n ∷ bs) = named_by (has_dot n) n (plain_names (filter may_clash bs)) (plain_names bs) (plain_kept bs)
plain_kept (net m ∷ bs) = kept_by (has_dot (net_name m)) m bs (plain_kept bs)
