-- A source has at most one list of symbols.
use Rattle.std.proofs.Common.{◌≡◌, ℕ, Bool, List, [], ◌∷◌, refl, sym, ap, ◌∙◌, subst}
use Rattle.c_lex.specs.declared.keys.Key.{Key as Word}
use Rattle.c_lex.specs.declared.signs.Sign.{Sign}
use Rattle.c_lex.specs.declared.tokens.Token.{Token}
use Rattle.c_lex.specs.declared.tokens.Kind.{Kind}
use Rattle.c_lex.specs.declared.tokens.Kind.TheVariants as kind
use Rattle.hls_pragma.specs.declared.directives.Pragma.{Pragma}
use Rattle.hls_pragma.specs.declared.directives.Pragma.TheVariants as pragma
use Rattle.hls_pragma.specs.Laws.{ReadingLaws}
use Rattle.hls_pragma.specs.Reads.{Reads}
use Rattle.c_parse.specs.declared.symbols.Class.{Class}
use Rattle.c_parse.specs.declared.symbols.Class.TheVariants as class
use Rattle.c_parse.specs.Symbols.{Sym, Symbols, Shows, none, shown, foreign, bytes_of, named_in, symbol_at, key_class, sign_class, as_name, as_number, as_text, as_key, as_sign, as_scope, as_single, as_barrier, as_refused}

abbrev Pair : Type 0
Pair = Class × List (List ℕ)

-- what a pragma that is read shows
abbrev pair_of : List ℕ → Pragma → Pair
pair_of line (pragma.Scope level names) = (class.Scope level, named_in line names)
pair_of line (pragma.Single names nowait) = (class.Single nowait, named_in line names)
pair_of line (pragma.Barrier names) = (class.Barrier, named_in line names)
pair_of line pragma.Foreign = (class.Other, [])

-- what a number, a key or a sign shows
abbrev kind_pair : Kind → Pair
kind_pair (kind.Number value long) = (class.Number value long, [])
kind_pair (kind.Key k) = (key_class k, [])
kind_pair (kind.Sign s) = (sign_class s, [])
kind_pair k = (class.Other, [])

by_name : (src : List ℕ) (t : Token) (d : Class) (n : List (List ℕ)) → t.kind ≡ kind.Name → Shows src t d n → ◌≡◌ {A = Pair} (class.Name, []) (d, n)
by_name src t d n e (as_name f) = refl
by_name src t d n e (as_text f) = cc
by_name src t d n e (as_key w f) = cc
by_name src t d n e (as_sign g f) = cc
by_name src t d n e (as_number v l f) = cc
by_name src t d n e (as_scope level names f r) = cc
by_name src t d n e (as_single names nowait f r) = cc
by_name src t d n e (as_barrier names f r) = cc
by_name src t d n e (as_refused f r) = cc

by_text : (src : List ℕ) (t : Token) (d : Class) (n : List (List ℕ)) → t.kind ≡ kind.Text → Shows src t d n → ◌≡◌ {A = Pair} (class.Text, []) (d, n)
by_text src t d n e (as_name f) = cc
by_text src t d n e (as_text f) = refl
by_text src t d n e (as_key w f) = cc
by_text src t d n e (as_sign g f) = cc
by_text src t d n e (as_number v l f) = cc
by_text src t d n e (as_scope level names f r) = cc
by_text src t d n e (as_single names nowait f r) = cc
by_text src t d n e (as_barrier names f r) = cc
by_text src t d n e (as_refused f r) = cc

by_key : (src : List ℕ) (t : Token) (k : Word) (d : Class) (n : List (List ℕ)) → t.kind ≡ kind.Key k → Shows src t d n → ◌≡◌ {A = Pair} (key_class k, []) (d, n)
by_key src t k d n e (as_name f) = cc
by_key src t k d n e (as_text f) = cc
by_key src t k d n e (as_key w f) = let z : kind.Key k ≡ kind.Key w = sym e ∙ f in ap kind_pair z
by_key src t k d n e (as_sign g f) = cc
by_key src t k d n e (as_number v l f) = cc
by_key src t k d n e (as_scope level names f r) = cc
by_key src t k d n e (as_single names nowait f r) = cc
by_key src t k d n e (as_barrier names f r) = cc
by_key src t k d n e (as_refused f r) = cc

by_sign : (src : List ℕ) (t : Token) (s : Sign) (d : Class) (n : List (List ℕ)) → t.kind ≡ kind.Sign s → Shows src t d n → ◌≡◌ {A = Pair} (sign_class s, []) (d, n)
by_sign src t s d n e (as_name f) = cc
by_sign src t s d n e (as_text f) = cc
by_sign src t s d n e (as_key w f) = cc
by_sign src t s d n e (as_sign g f) = let z : kind.Sign s ≡ kind.Sign g = sym e ∙ f in ap kind_pair z
by_sign src t s d n e (as_number v l f) = cc
by_sign src t s d n e (as_scope level names f r) = cc
by_sign src t s d n e (as_single names nowait f r) = cc
by_sign src t s d n e (as_barrier names f r) = cc
by_sign src t s d n e (as_refused f r) = cc

by_number : (src : List ℕ) (t : Token) (value : _) (long : Bool) (d : Class) (n : List (List ℕ)) → t.kind ≡ kind.Number value long → Shows src t d n → ◌≡◌ {A = Pair} (class.Number value long, []) (d, n)
by_number src t value long d n e (as_name f) = cc
by_number src t value long d n e (as_text f) = cc
by_number src t value long d n e (as_key w f) = cc
by_number src t value long d n e (as_sign g f) = cc
by_number src t value long d n e (as_number v l f) = let z : kind.Number value long ≡ kind.Number v l = sym e ∙ f in ap kind_pair z
by_number src t value long d n e (as_scope level names f r) = cc
by_number src t value long d n e (as_single names nowait f r) = cc
by_number src t value long d n e (as_barrier names f r) = cc
by_number src t value long d n e (as_refused f r) = cc

by_refused : (src : List ℕ) (t : Token) (d : Class) (n : List (List ℕ)) → t.kind ≡ kind.Pragma → ((p : Pragma) → Reads (bytes_of src t) p → ⊥) → Shows src t d n → ◌≡◌ {A = Pair} (class.Refused, []) (d, n)
by_refused src t d n e z (as_name f) = cc
by_refused src t d n e z (as_text f) = cc
by_refused src t d n e z (as_key w f) = cc
by_refused src t d n e z (as_sign g f) = cc
by_refused src t d n e z (as_number v l f) = cc
by_refused src t d n e z (as_scope level names f r) = absurd (z (pragma.Scope level names) r)
by_refused src t d n e z (as_single names nowait f r) = absurd (z (pragma.Single names nowait) r)
by_refused src t d n e z (as_barrier names f r) = absurd (z (pragma.Barrier names) r)
by_refused src t d n e z (as_refused f r) = refl

no_symbols : {src : List ℕ} {ts : List Token} {ss : List Sym} → Symbols src ts ss → ts ≡ [] → ss ≡ []
no_symbols none e = refl
no_symbols (shown t ts c n ss h k) e = cc
no_symbols (foreign t ts ss f h k) e = cc

-- what the first of some tokens is
data First (src : List ℕ) (t : Token) (ts : List Token) : List Sym → Type 0 where
  shows_it : (c : Class) (n : List (List ℕ)) (rest : List Sym) → Shows src t c n → Symbols src ts rest → First src t ts (symbol_at src t c n ∷ rest)
  is_foreign : (rest : List Sym) → t.kind ≡ kind.Pragma → Reads (bytes_of src t) pragma.Foreign → Symbols src ts rest → First src t ts rest

move_first : (src : List ℕ) (t u : Token) (ts us : List Token) (ss : List Sym) → t ≡ u → ts ≡ us → First src t ts ss → First src u us ss
move_first src t u ts us ss e f h = subst (λ v. First src v us ss) e (subst (λ vs. First src t vs ss) f h)

first_symbol : {src : List ℕ} {us : List Token} {ss : List Sym} → Symbols src us ss → (t : Token) (ts : List Token) → us ≡ t ∷ ts → First src t ts ss
first_symbol none t ts e = cc
first_symbol {src = src} (shown u us c n rest h k) t ts e = move_first src u t us ts _ (let q : u ≡ t = cc in q) (let q : us ≡ ts = cc in q) (shows_it c n rest h k)
first_symbol {src = src} (foreign u us rest f h k) t ts e = move_first src u t us ts _ (let q : u ≡ t = cc in q) (let q : us ≡ ts = cc in q) (is_foreign rest f h k)

same_head : (src : List ℕ) (t : Token) (c d : Class) (m n : List (List ℕ)) (ss rest : List Sym) → ◌≡◌ {A = Pair} (c, m) (d, n) → ss ≡ rest → symbol_at src t c m ∷ ss ≡ symbol_at src t d n ∷ rest
same_head src t c d m n ss rest e f = ap (λ (p : Pair). symbol_at src t p.0 p.1 ∷ ss) e ∙ ap (λ l. symbol_at src t d n ∷ l) f

module _ (laws : ReadingLaws) where
  -- a pragma is read in one way
  same_read : (src : List ℕ) (t : Token) (p q : Pragma) → Reads (bytes_of src t) p → Reads (bytes_of src t) q → pair_of (bytes_of src t) p ≡ pair_of (bytes_of src t) q
  same_read src t p q h k = sym (ap (pair_of (bytes_of src t)) (laws.one_reading (bytes_of src t) p q h k))

  by_pragma : (src : List ℕ) (t : Token) (p : Pragma) (d : Class) (n : List (List ℕ)) → t.kind ≡ kind.Pragma → Reads (bytes_of src t) p → (p ≡ pragma.Foreign → ⊥) → Shows src t d n → ◌≡◌ {A = Pair} (pair_of (bytes_of src t) p) (d, n)
  by_pragma src t p d n e h z (as_name f) = cc
  by_pragma src t p d n e h z (as_text f) = cc
  by_pragma src t p d n e h z (as_key w f) = cc
  by_pragma src t p d n e h z (as_sign g f) = cc
  by_pragma src t p d n e h z (as_number v l f) = cc
  by_pragma src t p d n e h z (as_scope level names f r) = same_read src t p (pragma.Scope level names) h r
  by_pragma src t p d n e h z (as_single names nowait f r) = same_read src t p (pragma.Single names nowait) h r
  by_pragma src t p d n e h z (as_barrier names f r) = same_read src t p (pragma.Barrier names) h r
  by_pragma src t p d n e h z (as_refused f r) = absurd (r p h)

  -- a token shows one thing
  same_shown : (src : List ℕ) (t : Token) (c d : Class) (m n : List (List ℕ)) → Shows src t c m → Shows src t d n → ◌≡◌ {A = Pair} (c, m) (d, n)
  same_shown src t c d m n (as_name e) k = by_name src t d n e k
  same_shown src t c d m n (as_number v l e) k = by_number src t v l d n e k
  same_shown src t c d m n (as_text e) k = by_text src t d n e k
  same_shown src t c d m n (as_key w e) k = by_key src t w d n e k
  same_shown src t c d m n (as_sign g e) k = by_sign src t g d n e k
  same_shown src t c d m n (as_scope level names e h) k = by_pragma src t (pragma.Scope level names) d n e h (λ q. cc) k
  same_shown src t c d m n (as_single names nowait e h) k = by_pragma src t (pragma.Single names nowait) d n e h (λ q. cc) k
  same_shown src t c d m n (as_barrier names e h) k = by_pragma src t (pragma.Barrier names) d n e h (λ q. cc) k
  same_shown src t c d m n (as_refused e h) k = by_refused src t d n e h k

  -- and a foreign pragma shows nothing
  not_foreign : (src : List ℕ) (t : Token) (d : Class) (n : List (List ℕ)) → t.kind ≡ kind.Pragma → Reads (bytes_of src t) pragma.Foreign → Shows src t d n → ⊥
  not_foreign src t d n e h (as_name f) = cc
  not_foreign src t d n e h (as_text f) = cc
  not_foreign src t d n e h (as_key w f) = cc
  not_foreign src t d n e h (as_sign g f) = cc
  not_foreign src t d n e h (as_number v l f) = cc
  not_foreign src t d n e h (as_scope level names f r) = let z : pragma.Foreign ≡ pragma.Scope level names = laws.one_reading (bytes_of src t) (pragma.Scope level names) pragma.Foreign r h in cc
  not_foreign src t d n e h (as_single names nowait f r) = let z : pragma.Foreign ≡ pragma.Single names nowait = laws.one_reading (bytes_of src t) (pragma.Single names nowait) pragma.Foreign r h in cc
  not_foreign src t d n e h (as_barrier names f r) = let z : pragma.Foreign ≡ pragma.Barrier names = laws.one_reading (bytes_of src t) (pragma.Barrier names) pragma.Foreign r h in cc
  not_foreign src t d n e h (as_refused f r) = r pragma.Foreign h

  shown_first : (src : List ℕ) (t : Token) (ts : List Token) (c : Class) (m : List (List ℕ)) (ss rest : List Sym) → Shows src t c m → ((other : List Sym) → Symbols src ts other → ss ≡ other) → First src t ts rest → symbol_at src t c m ∷ ss ≡ rest
  shown_first src t ts c m ss rest h more (shows_it d n other k l) = same_head src t c d m n ss other (same_shown src t c d m n h k) (more other l)
  shown_first src t ts c m ss rest h more (is_foreign other e f l) = absurd (not_foreign src t c m e f h)

  foreign_first : (src : List ℕ) (t : Token) (ts : List Token) (ss rest : List Sym) → t.kind ≡ kind.Pragma → Reads (bytes_of src t) pragma.Foreign → ((other : List Sym) → Symbols src ts other → ss ≡ other) → First src t ts rest → ss ≡ rest
  foreign_first src t ts ss rest e f more (shows_it d n other k l) = absurd (not_foreign src t d n e f k)
  foreign_first src t ts ss rest e f more (is_foreign other g h l) = more other l

  pub same_symbols : {src : List ℕ} {ts : List Token} {ss : List Sym} → Symbols src ts ss → (rest : List Sym) → Symbols src ts rest → ss ≡ rest
  same_symbols none rest k = sym (no_symbols k refl)
  same_symbols {src = src} (shown t ts c m ss h l) rest k = shown_first src t ts c m ss rest h (λ other o. same_symbols l other o) (first_symbol k t ts refl)
  same_symbols {src = src} (foreign t ts ss e f l) rest k = foreign_first src t ts ss rest e f (λ other o. same_symbols l other o) (first_symbol k t ts refl)
