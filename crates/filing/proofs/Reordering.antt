-- An accepted image with its rules in another order is accepted, of bytes, as long, and answered as the image is.
use mathlib.Core.Path.{◌≡◌, sym, ap, ap₂, ◌∙◌}
use mathlib.Core.Bool.{Bool}
use mathlib.Core.List.{List}
use Prim.Native.Nat.{ℕ, ◌≤◌, ◌/◌, ◌%◌}
use native.Mathlib.Omega.{arith}
use lib.Dec.{ltb, leb}
use lib.ListN.{length, get_or}
use Rattle.lists.specs.Lists.{index_in}
use Rattle.lists.specs.Inside.Numbering.{Numbering}
use Rattle.program.specs.Program.{Program, Π}
use Rattle.calls.specs.Verdicts.{Verdict, Accepted}
use Rattle.layout.specs.Causes.{verdict}
use Rattle.layout.specs.Causes as images
use Rattle.calls.specs.Verdicts.{told, refuse, and_then}
use Rattle.layout.specs.Reading.{program_in}
use Rattle.image.proofs.Accepted.{accepted_limits}
use Rattle.calls.proofs.Verdicts.{then_right}
use Rattle.calls.proofs.Refusals.{check_accepted}
use Rattle.derivation.specs.Derivation.{HeadsBelow}
use Rattle.derivation.specs.Closure.{contradictory}
use Rattle.argument.specs.List.{argument_list}
use Rattle.answer.specs.Answer.{node_count, tests, answer}
use Rattle.calls.specs.Outcomes.{by_verdict, code_in, nodes_in}
use Rattle.calls.specs.Calls.{check_image, list_in, list_verdict, listed, count_number, query_verdict, queried, packed, host_call}
use Rattle.calls.specs.Calls.{trees_call, answered_number, Call, query, host, trees, verdict_of, code_from, nodes_from}
use Rattle.renaming.specs.Programs.{Renumbered}
use Rattle.renaming.proofs.Arguments.{lists_length, strict_contradictory_to}
use Rattle.renaming.proofs.Answers.{nodes_same, answers_same}
use Rattle.writing.specs.Image.{Bytes, image_of}
use Rattle.writing.specs.Inside.Writable.{Writable}
use Rattle.writing.proofs.Reading.{image_program}
use Rattle.writing.proofs.Written.{image_as_long}
use Rattle.writing.proofs.Accepting.{image_accepted, image_short}
use Rattle.writing.proofs.Holding.{accepted_writable}
use Rattle.writing.proofs.Bytes.{image_bytes}
use Rattle.filing.specs.Filed.{ordered}
use Rattle.filing.specs.Claims.{AcceptedImage, AnsweredAs}
use Rattle.filing.specs.Inside.Wellformed.{Wellformed}
use Rattle.filing.proofs.Orders.{ordered_renumbered}
use Rattle.filing.proofs.Images.{writable_wellformed, ordered_writable, ordered_image_length}

module _ (s : List ℕ) (a : AcceptedImage s) where
  pub reads : verdict s ≡ images.accepted
  reads = (check_accepted s a).0

  coherent : refuse (contradictory (Π (program_in s).rules)) 14 0 ≡ Accepted
  unfolding check_image
  coherent = then_right (told (verdict s)) (refuse (contradictory (Π (program_in s).rules)) 14 0) a

  pub writable : Writable (program_in s)
  writable = accepted_writable s reads

  pub wellformed : Wellformed (program_in s)
  wellformed = writable_wellformed (program_in s) writable

  heads : HeadsBelow 128 (program_in s).rules
  heads r i = let l = accepted_limits s reads in omega (arith, l.heads_below r i, l.atoms_limit)

  module _ (order : List ℕ) (o : Numbering (length (program_in s).rules) order) where
    moved_writable : Writable (ordered (program_in s) order)
    moved_writable = ordered_writable (program_in s) order o writable

    renumbered : Renumbered (program_in s) (ordered (program_in s) order) (index_in order) (λ j. get_or order j 0)
    renumbered = ordered_renumbered (program_in s) order o wellformed

    holds : program_in (image_of (ordered (program_in s) order)) ≡ ordered (program_in s) order
    holds = image_program (ordered (program_in s) order)

    pub moved_accepted : AcceptedImage (image_of (ordered (program_in s) order))
    unfolding check_image
    moved_accepted =
        ap₂ and_then (ap told (image_accepted (ordered (program_in s) order) moved_writable))
        (ap (λ (b : Bool). refuse b 14 0)
        (ap (λ (p : Program). contradictory (Π p.rules)) holds ∙ sym (strict_contradictory_to renumbered))
        ∙ coherent)

    pub moved_bytes : Bytes (image_of (ordered (program_in s) order))
    moved_bytes = image_bytes (ordered (program_in s) order) moved_writable

    pub moved_long : length (image_of (ordered (program_in s) order)) ≡ length s
    moved_long = ordered_image_length (program_in s) order o writable ∙ image_as_long s reads

    pub moved_short : length (image_of (ordered (program_in s) order)) ≤ 1836
    moved_short = image_short (ordered (program_in s) order) moved_writable

    -- ---- answered as the image is

    abbrev moved : List ℕ
    moved = image_of (ordered (program_in s) order)

    list_same : length (list_in moved) ≡ length (list_in s)
    list_same =
        ap (λ (p : Program). length (argument_list p.rules)) holds ∙ sym (lists_length renumbered heads)

    checks : check_image moved ≡ check_image s
    checks = moved_accepted ∙ sym a

    verdict_same : (h budget argument_room node_room : ℕ)
        → query_verdict moved h budget argument_room node_room ≡ query_verdict s h budget argument_room node_room
    unfolding query_verdict
    verdict_same h budget argument_room node_room =
        ap₂ (λ (v : Verdict) (n : ℕ).
        and_then v
        (and_then (refuse (leb 128 h) 20 0)
        (and_then (refuse (ltb 4096 budget) 21 0)
        (and_then (refuse (ltb node_room budget) 22 0) (refuse (ltb argument_room n) 23 0))))) checks list_same

    query_same : (h budget argument_room node_room : ℕ)
        → queried moved h budget argument_room node_room ≡ queried s h budget argument_room node_room
    unfolding queried
    query_same h budget argument_room node_room =
        ap₂ by_verdict (verdict_same h budget argument_room node_room)
        (ap (λ (p : Program). answer p h budget) holds ∙ sym (answers_same renumbered heads h budget))

    host_same : (h budget : ℕ) → host_call moved h budget ≡ host_call s h budget
    unfolding host_call
    host_same h budget = ap packed (query_same h budget 4096 4096)

    list_same_call : (room : ℕ) → listed moved room ≡ listed s room
    unfolding listed list_verdict
    list_same_call room =
        ap₂ (λ (v : Verdict) (n : ℕ). by_verdict (and_then v (refuse (ltb room n) 23 0)) n) checks list_same

    -- every call that gives a literal's answer
    call_same : (c : Call) → (verdict_of moved c ≡ verdict_of s c) × (code_from moved c ≡ code_from s c)
        × (nodes_from moved c ≡ nodes_from s c)
    call_same (query h budget argument_room node_room) =
        let e = query_same h budget argument_room node_room in
        (verdict_same h budget argument_room node_room, ap code_in e, ap nodes_in e)
    call_same (host h budget) =
        let e = host_same h budget in
        (verdict_same h budget 4096 4096, ap (λ (n : ℕ). n / 65536) e, ap (λ (n : ℕ). n % 65536) e)
    call_same (trees h budget argument_room node_room) =
        let e : trees_call moved h budget argument_room node_room ≡ trees_call s h budget argument_room node_room
        = ap answered_number (query_same h budget argument_room node_room) in
        (verdict_same h budget argument_room node_room, ap (λ (n : ℕ). n / 65536) e, ap (λ (n : ℕ). n % 65536) e)

    pub moved_answered : AnsweredAs s (image_of (ordered (program_in s) order))
    moved_answered = record {
      queries = query_same;
      trees = λ h budget argument_room node_room. ap answered_number (query_same h budget argument_room node_room);
      hosts = host_same;
      calls = call_same;
      nodes = λ h. ap (λ (p : Program). node_count (tests p) h) holds ∙ sym (nodes_same renumbered heads h);
      lists = λ room. (list_same_call room, ap count_number (list_same_call room));
    }
