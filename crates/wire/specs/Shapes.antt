-- The shape of a packet: all its lengths walked, and nothing judged yet. What has no shape is malformed. Assumes nothing.
use Rattle.std.specs.Prelude.{ℕ, zero, suc, Bool, cond, ◌||◌, List, [], ◌∷◌, length, Some, None, Option, ◌==◌, nat_le}
use Rattle.std.specs.Int.{w16, w32, w64}
use Rattle.std.specs.Option.{option_map}
use Rattle.wire.specs.Cuts.{cut_byte, cut_number, cut_list, cut_list_if, cut_what, then, at_end}

pub record QueryShape : Type 0 where
  pub id : ℕ
  pub apex : List (List ℕ)
  pub kind : ℕ
  pub name : List (List ℕ)

-- what: what the response is; name: the alias's target or the zone that is referred to, otherwise the root
pub record ResponseShape : Type 0 where
  pub id : ℕ
  pub apex : List (List ℕ)
  pub what : ℕ
  pub ttl : ℕ
  pub name : List (List ℕ)
  pub pieces : List (List ℕ)

pub record RequestShape : Type 0 where
  pub id : ℕ
  pub apex : List (List ℕ)
  pub known : ℕ

pub record SetShape : Type 0 where
  pub name : List (List ℕ)
  pub kind : ℕ
  pub ttl : ℕ
  pub pieces : List (List ℕ)

pub record Times : Type 0 where
  pub negative : ℕ
  pub refresh : ℕ
  pub expire : ℕ

-- what stands before the sets of a part
pub record Head : Type 0 where
  pub id : ℕ
  pub serial : ℕ
  pub moment : ℕ
  pub times : Times
  pub part : ℕ
  pub of : ℕ

pub record PartShape : Type 0 where
  pub head : Head
  pub sets : List SetShape

pub data Shape : Type 0 where
  QueryShaped : (query : QueryShape) → Shape
  ResponseShaped : (response : ResponseShape) → Shape
  RequestShaped : (request : RequestShape) → Shape
  PartShaped : (part : PartShape) → Shape

-- ---- the four kinds, each behind its first byte

unfoldable pub query_shape : List ℕ → Option QueryShape
query_shape bs =
    then (cut_number w64 bs) (λ id r1.
    then (cut_list r1) (λ apex r2.
    then (cut_byte r2) (λ kind r3.
    then (cut_list r3) (λ name r4. at_end (record { id = id; apex = apex; kind = kind; name = name }) r4))))

-- only an alias and a referral name something
abbrev pub names_one : ℕ → Bool
names_one what = what == 2 || what == 3

unfoldable pub response_shape : List ℕ → Option ResponseShape
response_shape bs =
    then (cut_number w64 bs) (λ id r1.
    then (cut_list r1) (λ apex r2.
    then (cut_what r2) (λ what r3.
    then (cut_number w32 r3) (λ ttl r4.
    then (cut_list_if (names_one what) r4) (λ name r5.
    then (cut_list r5) (λ pieces r6. at_end (record { id = id; apex = apex; what = what; ttl = ttl; name = name; pieces = pieces }) r6))))))

unfoldable pub request_shape : List ℕ → Option RequestShape
request_shape bs =
    then (cut_number w64 bs) (λ id r1.
    then (cut_list r1) (λ apex r2.
    then (cut_number w64 r2) (λ known r3. at_end (record { id = id; apex = apex; known = known }) r3)))

unfoldable pub cut_set : List ℕ → Option (SetShape × List ℕ)
cut_set bs =
    then (cut_list bs) (λ name r1.
    then (cut_byte r1) (λ kind r2.
    then (cut_number w32 r2) (λ ttl r3.
    then (cut_list r3) (λ pieces r4. Some (record { name = name; kind = kind; ttl = ttl; pieces = pieces }, r4)))))

-- the sets until the packet ends; no set takes no byte, so there are at most as many as there are bytes
unfoldable pub sets_upto : ℕ → List ℕ → Option (List SetShape)
sets_upto n [] = Some []
sets_upto zero (b ∷ bs) = None
sets_upto (suc n) (b ∷ bs) = then (cut_set (b ∷ bs)) (λ s rest. option_map (λ ss. s ∷ ss) (sets_upto n rest))

abbrev pub sets_in : List ℕ → Option (List SetShape)
sets_in bs = sets_upto (length bs) bs

unfoldable pub cut_times : List ℕ → Option (Times × List ℕ)
cut_times bs =
    then (cut_number w32 bs) (λ negative r1.
    then (cut_number w32 r1) (λ refresh r2.
    then (cut_number w32 r2) (λ expire r3. Some (record { negative = negative; refresh = refresh; expire = expire }, r3))))

unfoldable pub cut_head : List ℕ → Option (Head × List ℕ)
cut_head bs =
    then (cut_number w64 bs) (λ id r1.
    then (cut_number w64 r1) (λ serial r2.
    then (cut_number w64 r2) (λ moment r3.
    then (cut_times r3) (λ times r4.
    then (cut_number w16 r4) (λ part r5.
    then (cut_number w16 r5) (λ of r6.
    Some (record { id = id; serial = serial; moment = moment; times = times; part = part; of = of }, r6)))))))

-- a part of none tells that there is nothing newer: no set stands behind it
abbrev pub sets_behind : Head → List ℕ → Option (List SetShape)
sets_behind h bs = cond (h.of == 0) (at_end [] bs) (sets_in bs)

unfoldable pub part_shape : List ℕ → Option PartShape
part_shape bs = then (cut_head bs) (λ head rest. option_map (λ ss. record { head = head; sets = ss }) (sets_behind head rest))

-- ---- any of them, by its first byte

abbrev pub shape_by : ℕ → List ℕ → Option Shape
shape_by n bs =
    cond (n == 1) (option_map QueryShaped (query_shape bs))
    (cond (n == 2) (option_map ResponseShaped (response_shape bs))
    (cond (n == 3) (option_map RequestShaped (request_shape bs))
    (cond (n == 4) (option_map PartShaped (part_shape bs)) None)))

-- a packet has at most 1,200 bytes
abbrev pub shape_of : List ℕ → Option Shape
shape_of bs = cond (nat_le (length bs) 1200) (then (cut_byte bs) shape_by) None
