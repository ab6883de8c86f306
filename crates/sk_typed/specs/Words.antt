-- The words that name commands.
use Rattle.std.specs.Prelude.{codes, if◌then◌else◌, Option, Some, None, bytes_eq}
use Rattle.sk_cli.specs.declared.options.Verb.{Verb}
use Rattle.sk_cli.specs.declared.options.Verb.TheVariants as verb
use Rattle.sk_cli.specs.Values.{Word}

-- the command with options that a word names
abbrev pub verb_of : Word → Option Verb
verb_of word =
    if bytes_eq word (codes "count") then Some verb.Count else (
    if bytes_eq word (codes "hash") then Some verb.Hash else (
    if bytes_eq word (codes "image") then Some verb.Image else (
    if bytes_eq word (codes "join") then Some verb.Join else (
    if bytes_eq word (codes "make") then Some verb.Make else (
    if bytes_eq word (codes "quantile") then Some verb.Quantile else (
    if bytes_eq word (codes "replay") then Some verb.Replay else (
    if bytes_eq word (codes "serve") then Some verb.Serve else (
    if bytes_eq word (codes "tally") then Some verb.Tally else (
    if bytes_eq word (codes "tenants") then Some verb.Tenants else (
    if bytes_eq word (codes "window") then Some verb.Window else None))))))))))
