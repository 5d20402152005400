use Rattle.std.proofs.Common.{◌≡◌, ℕ, ◌++◌, length, take, List, true, Some, None, Option, sym, refl, ap, ◌∙◌, rules, arith}
use Rattle.std.proofs.lemmas.List.{take_at}
use Rattle.names.specs.Names.{labels}
use Rattle.names.specs.Order.{within}
use Rattle.names.proofs.Within.{within_front}
use Rattle.meaning.specs.Says.{Speaker, says}
use Rattle.meaning.specs.Speech.{said_by}
use Rattle.meaning.proofs.Saying.{says_laws}
use Rattle.protocol.specs.Words.{Word, word_by, tells}
use Rattle.wire.specs.Packets.{response_bytes}
use Rattle.wire.specs.Replies.{response_for}
use Rattle.zones.specs.Zones.{zone_of, speaker_of}
use Rattle.authority.proofs.answering.answer.Goals as goal

no_speaker : (a : Speaker) → ◌≡◌ {A = Option Speaker} None (Some a) → ⊥
no_speaker a h = let z : ◌≡◌ {A = ℕ} 0 1 = cc in omega arith

front_of : (a n : List (List ℕ)) → within a n ≡ true → take (length a) n ≡ a
front_of a n h =
    let p = within_front a n h in
    ap (take (length a)) p.1 ∙ take_at a p.0 (length a) refl

same_above : (a b n : List (List ℕ)) → within a n ≡ true → within b n ≡ true → length a ≡ length b → a ≡ b
same_above a b n h k e = sym (front_of a n h) ∙ ap (λ c. take c n) e ∙ front_of b n k

-- a zone has a word on every name within its apex
pub returns-in_default : goal.returns-in_default
returns-in_default c =
    let z = zone_of c.args.zone.now in
    let q = c.args.query.now in
    let none : ◌≡◌ {A = Option Speaker} None (says z (labels q.name) q.kind.number) = search rules in (
      λ h.
          let inside = ap (λ a. within a (labels q.name)) h ∙ q.inside in
          let some = says_laws.answers z (labels q.name) q.kind.number inside in
          no_speaker some.0 (none ∙ some.1),
      refl,
    )

pub returns : goal.returns
unfolding tells
returns c =
    let z = zone_of c.args.zone.now in
    let q = c.args.query.now in
    let speaker = speaker_of c.in-Some.reply in
    let word : Word = record { said = said_by speaker; ttl = c.ttl_of-ttl.result.0 } in
    let said : says z (labels q.name) q.kind.number ≡ Some speaker = search rules in
    let counts : c.label_count.result ≡ c.label_count-2.result = search rules in
    let as_many : length z.apex ≡ length (labels q.apex) = sym (c.label_count.ensures ∙ ap length c.apex.ensures) ∙ counts ∙ c.label_count-2.ensures ∙ ap length c.apex-2.ensures in
    let same = same_above z.apex (labels q.apex) (labels q.name) (says_laws.within_apex z (labels q.name) q.kind.number speaker said) q.inside as_many in
    let sent : c.write_reply.new.out.items ≡ c.args.out.now.items ++ response_bytes (response_for c.id.result.0 (labels c.apex-3.result.now) word.ttl word.said) = search rules in
    let told = sent ∙ (λ i. c.args.out.now.items ++ response_bytes (response_for (c.id.ensures i) (c.apex-3.ensures i) word.ttl word.said)) in
    (same, word, ap (word_by z) said ∙ ap (λ t. Some (record { said = said_by speaker; ttl = t })) (sym c.ttl_of-ttl.ensures), told)
