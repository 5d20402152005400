-- Questions that begin, and those that are done.
use Rattle.std.proofs.Common.{◌≡◌, ℕ, suc, ◌+◌, ◌<◌, ◌≤◌, leb, List, [], ◌∷◌, ◌++◌, map, length, get_or, take, drop, remove, Some, None, sym, refl, ap, ◌∙◌, append_assoc, append-nil, arith}
use mathlib.Core.List.{map-append}
use Rattle.std.proofs.lemmas.List.{get_or-map, take-map, drop-map, drop_more, drop_all, take_more, take_all}
use Rattle.std.proofs.lemmas.Bool.{cond-true, cond-false, le-leb, lt-leb}
use Rattle.protocol.specs.Words.{Server}
use Rattle.protocol.specs.World.{Rules, Entry}
use Rattle.machine.specs.Machine as machine
use Rattle.machine.specs.Machine.{Question, State, Nowhere, Shown, shown_as, Done, Awaits, Wants, standing, with_walks, Began, begin_by, begin, is_done, Settled, settle_on, settle_in}
use Rattle.resolver.specs.declared.answer.Outcome.{Outcome}
use Rattle.resolver.specs.declared.answer.Standing.{Standing}
use Rattle.resolver.specs.declared.answer.Standing.TheVariants as stands
use Rattle.resolver.specs.Resolvers.{standing_for}

module _ (r : Rules) (st : State) (u : Question) where
  pub no_place : 16 ≤ length st.walks → begin r u st ≡ record { state = st; shown = Some (shown_as u Nowhere 0) }
  unfolding begin
  no_place l = cond-true (leb 16 (length st.walks)) (record { state = st; shown = Some (shown_as u Nowhere 0) }) (begin_by u st (standing r st u)) (le-leb 16 (length st.walks) l)

  begun : length st.walks < 16 → begin r u st ≡ begin_by u st (standing r st u)
  unfolding begin
  begun l = cond-false (leb 16 (length st.walks)) (record { state = st; shown = Some (shown_as u Nowhere 0) }) (begin_by u st (standing r st u)) (lt-leb 16 (length st.walks) l)

  pub done_at_once : (x : machine.Answer) (n : ℕ) → length st.walks < 16 → Done x n ≡ standing r st u → begin r u st ≡ record { state = st; shown = Some (shown_as u x n) }
  done_at_once x n l e = begun l ∙ ap (begin_by u st) (sym e)

  module _ (roots : List Server) (es : List Entry) where
    pub under_way : (x : Standing) → length st.walks < 16 → standing_for roots es x ≡ standing r st u → ((o : Outcome) → x ≡ stands.Done o → ⊥) → begin r u st ≡ record { state = with_walks (st.walks ++ (u ∷ [])) st; shown = None }
    under_way (stands.Done o) l e h = absurd (h o refl)
    under_way (stands.Awaits key) l e h = begun l ∙ ap (begin_by u st) (sym e)
    under_way (stands.Wants w) l e h = begun l ∙ ap (begin_by u st) (sym e)

-- ---- the first that is done

module _ (r : Rules) (st : State) where
  settle_done : (u : Question) (us : List Question) (x : machine.Answer) (n : ℕ) → standing r st u ≡ Done x n → settle_in r st (u ∷ us) ≡ record { walks = us; shown = Some (shown_as u x n) }
  unfolding settle_in
  settle_done u us x n e = ap (λ s. settle_on u us (is_done s) (settle_in r st us)) e

  settle_not : (u : Question) (us : List Question) → is_done (standing r st u) ≡ None → settle_in r st (u ∷ us) ≡ record { walks = u ∷ (settle_in r st us).walks; shown = (settle_in r st us).shown }
  unfolding settle_in
  settle_not u us e = ap (λ o. settle_on u us o (settle_in r st us)) e

  settle_nil : settle_in r st [] ≡ record { walks = []; shown = None }
  unfolding settle_in
  settle_nil = refl

  -- none of the first so many is done: what is left is settled behind them
  abbrev pub NoneDone : List Question → ℕ → Type 0
  NoneDone us i = settle_in r st us ≡ record { walks = take i us ++ (settle_in r st (drop i us)).walks; shown = (settle_in r st (drop i us)).shown }

  split_at : (us : List Question) (i : ℕ) (u : Question) → i < length us → u ≡ get_or us i u → drop i us ≡ u ∷ drop (i + 1) us
  split_at us i u l e = drop_more us i u l ∙ ap (λ x. x ∷ drop (i + 1) us) (sym e)

  -- one more that is not done
  pub not_this : (us : List Question) (i : ℕ) (u : Question) → i < length us → u ≡ get_or us i u → is_done (standing r st u) ≡ None → NoneDone us i → NoneDone us (i + 1)
  not_this us i u l e d h =
      h
      ∙ (λ j. record { walks = take i us ++ (step j).walks; shown = (step j).shown })
      ∙ (λ j. record { walks = longer j; shown = (settle_in r st (drop (i + 1) us)).shown })
    where
      step : settle_in r st (drop i us) ≡ record { walks = u ∷ (settle_in r st (drop (i + 1) us)).walks; shown = (settle_in r st (drop (i + 1) us)).shown }
      step = ap (settle_in r st) (split_at us i u l e) ∙ settle_not u (drop (i + 1) us) d

      longer : take i us ++ (u ∷ (settle_in r st (drop (i + 1) us)).walks) ≡ take (i + 1) us ++ (settle_in r st (drop (i + 1) us)).walks
      longer =
          sym (append_assoc (take i us) (u ∷ []) (settle_in r st (drop (i + 1) us)).walks)
          ∙ ap (λ xs. xs ++ (settle_in r st (drop (i + 1) us)).walks) (ap (λ x. take i us ++ (x ∷ [])) e ∙ sym (take_more us i u l))

  -- the one that is done goes
  pub this_one : (us : List Question) (i : ℕ) (u : Question) (x : machine.Answer) (n : ℕ) → i < length us → u ≡ get_or us i u → Done x n ≡ standing r st u → NoneDone us i → settle_in r st us ≡ record { walks = take i us ++ drop (i + 1) us; shown = Some (shown_as u x n) }
  this_one us i u x n l e d h = h ∙ (λ j. record { walks = take i us ++ (step j).walks; shown = (step j).shown })
    where
      step : settle_in r st (drop i us) ≡ record { walks = drop (i + 1) us; shown = Some (shown_as u x n) }
      step = ap (settle_in r st) (split_at us i u l e) ∙ settle_done u (drop (i + 1) us) x n (sym d)

  pub none_done : (us : List Question) (i : ℕ) → length us ≤ i → NoneDone us i → settle_in r st us ≡ record { walks = us; shown = None }
  none_done us i l h =
      h ∙ (λ j. record { walks = take i us ++ (rest j).walks; shown = (rest j).shown })
      ∙ (λ j. record { walks = all j; shown = None })
    where
      rest : settle_in r st (drop i us) ≡ record { walks = []; shown = None }
      rest = ap (settle_in r st) (drop_all i us l) ∙ settle_nil

      all : take i us ++ [] ≡ us
      all = append-nil (take i us) ∙ take_all i us l

-- a standing of the code's that is not done is none of the machine's
pub not_done : (roots : List Server) (es : List Entry) (x : Standing) → ((o : Outcome) → x ≡ stands.Done o → ⊥) → is_done (standing_for roots es x) ≡ None
not_done roots es (stands.Done o) h = absurd (h o refl)
not_done roots es (stands.Awaits key) h = refl
not_done roots es (stands.Wants w) h = refl

-- an element that the code reads, in the list of what the elements stand for
pub read_at : {X Y : Type 0} (f : X → Y) (xs : List X) (i : ℕ) (x : X) → i < length xs → x ≡ get_or xs i x → (d : Y) → f x ≡ get_or (map f xs) i d
read_at f xs i x l e d = ap f e ∙ sym (get_or-map f xs i x d l)

pub without : {X Y : Type 0} (f : X → Y) (xs : List X) (i : ℕ) → map f (remove xs i) ≡ take i (map f xs) ++ drop (i + 1) (map f xs)
without f xs i =
    let next : suc i ≡ i + 1 = omega arith in
    map-append f (take i xs) (drop (suc i) xs) ∙ (λ j. sym (take-map f i xs) j ++ sym (drop-map f (suc i) xs) j) ∙ ap (λ n. take i (map f xs) ++ drop n (map f xs)) next
