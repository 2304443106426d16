-- Cards have as many flat devices as they count.
use Rattle.std.proofs.Common.{◌≡◌, ◌+◌, ℕ, zero, suc, List, [], ◌∷◌, length, Bool, true, false, cond, Option, Some, None, refl, sym, ◌∙◌, map, find, flat_map, fold, option_map, sum_by, unwrap_or, length-append, arith}
use Rattle.gl_text.specs.LogicalLines.{same_text}
use Rattle.gl_text.specs.Cards.{Call}
use Rattle.gl_text.specs.Decks.{Body, dev_at, call_at, Sub, find_sub}
use Rattle.gl_size.proofs.CountLaws.{plus}
use Rattle.gl_text.specs.Flattening.{FlatDevice, Place, inside, devices_of, flat_devices, size_of, sizes, one_device}

abbrev Inner : Type 0
Inner = Place → List Body → List FlatDevice

abbrev counted_below : List (List ℕ × ℕ) → List ℕ → ℕ
counted_below below name = unwrap_or (option_map (λ (s : List ℕ × ℕ). s.1) (find (λ (s : List ℕ × ℕ). same_text s.0 name) below)) 0

abbrev counted : (List Body → ℕ) → Option Sub → ℕ
counted count o = unwrap_or (option_map (λ (s : Sub). count s.cards) o) 0

-- what is counted below is what the subcircuits count
abbrev Agrees : List (List ℕ × ℕ) → List Sub → (List Body → ℕ) → Type 0
Agrees below subs count = (name : List ℕ) → counted_below below name ≡ counted count (find_sub subs name)

abbrev Counts : Inner → (List Body → ℕ) → Type 0
Counts inner count = (p : Place) (cs : List Body) → length (inner p cs) ≡ count cs

-- ---- the rows of subcircuits

abbrev row : (List Body → ℕ) → Sub → List ℕ × ℕ
row count s = (s.head.name, count s.cards)

row_by : (count : List Body → ℕ) (s : Sub) (b : Bool) (p : Option (List ℕ × ℕ)) (o : Option Sub) → unwrap_or (option_map (λ (q : List ℕ × ℕ). q.1) p) 0 ≡ counted count o
    → unwrap_or (option_map (λ (q : List ℕ × ℕ). q.1) (cond b (Some (row count s)) p)) 0 ≡ counted count (cond b (Some s) o)
row_by count s true p o h = refl
row_by count s false p o h = h

rows_agree : (count : List Body → ℕ) (ss : List Sub) → Agrees (map (row count) ss) ss count
rows_agree count [] name = refl
rows_agree count (s ∷ ss) name = row_by count s (same_text s.head.name name) (find (λ (q : List ℕ × ℕ). same_text q.0 name) (map (row count) ss)) (find_sub ss name) (rows_agree count ss name)

none_counted : (o : Option Sub) → 0 ≡ counted (λ cs. 0) o
none_counted None = refl
none_counted (Some s) = refl

-- ---- cards

call_count : (rails : List (List ℕ)) (subs : List Sub) (inner : Inner) (count : List Body → ℕ) (place : Place) (line : ℕ) (c : Call) → Counts inner count
    → (o : Option Sub) → find_sub subs c.sub ≡ o → length (devices_of rails subs inner place (call_at line c)) ≡ counted count (find_sub subs c.sub)
call_count rails subs inner count place line c h None e = rw e refl
call_count rails subs inner count place line c h (Some t) e = rw e (h (inside rails place c t) t.cards)

card_count : (rails : List (List ℕ)) (subs : List Sub) (inner : Inner) (count : List Body → ℕ) (below : List (List ℕ × ℕ)) → Counts inner count → Agrees below subs count
    → (place : Place) (b : Body) → length (devices_of rails subs inner place b) ≡ size_of one_device below b
card_count rails subs inner count below h k place (dev_at line d) = refl
card_count rails subs inner count below h k place (call_at line c) = call_count rails subs inner count place line c h (find_sub subs c.sub) refl ∙ sym (k c.sub) ∙ plus (counted_below below c.sub)

sum_more : (f : Body → List FlatDevice) (own : Body → ℕ) → ((b : Body) → length (f b) ≡ own b) → (a : ℕ) (cs : List Body) → a + length (flat_map f cs) ≡ fold (λ n b. n + own b) a cs
sum_more f own h a [] = omega arith
sum_more f own h a (b ∷ cs) =
    let e : a + length (flat_map f (b ∷ cs)) ≡ (a + own b) + length (flat_map f cs) = omega (arith, length-append (f b) (flat_map f cs), h b) in
    e ∙ sum_more f own h (a + own b) cs

sum_all : (f : Body → List FlatDevice) (own : Body → ℕ) → ((b : Body) → length (f b) ≡ own b) → (cs : List Body) → length (flat_map f cs) ≡ sum_by own cs
sum_all f own h cs = plus (length (flat_map f cs)) ∙ sum_more f own h 0 cs

-- as many devices as the count says, through any number of X cards
pub devices_count : (rails : List (List ℕ)) (subs : List Sub) (depth : ℕ) (place : Place) (cs : List Body) → length (flat_devices rails subs depth place cs) ≡ sum_by (size_of one_device (sizes one_device subs depth)) cs
devices_count rails subs zero place cs =
    sum_all (devices_of rails subs (λ p c. []) place) (size_of one_device []) (card_count rails subs (λ p c. []) (λ c. 0) [] (λ p c. refl) (λ name. none_counted (find_sub subs name)) place) cs
devices_count rails subs (suc depth) place cs =
    let below = sizes one_device subs depth in
    let count : List Body → ℕ = λ c. sum_by (size_of one_device below) c in
    sum_all (devices_of rails subs (flat_devices rails subs depth) place) (size_of one_device (map (row count) subs)) (card_count rails subs (flat_devices rails subs depth) count (map (row count) subs) (devices_count rails subs depth) (rows_agree count subs) place) cs
