-- How to call the program. Assumes nothing.
use Rattle.std.specs.Prelude.{List, ◌++◌, ℕ}
use Rattle.text.specs.Text.{ascii}

unfoldable pub usage_text : List ℕ
usage_text =
    ascii "usage: meshaudit MAP LOG [MAP LOG ..]\n\n"
    ++ ascii "MAP is a map file. LOG is text: the numbers of a start and an end to a line, blank lines skipped, and what follows\n"
    ++ ascii "a # too; at most 65536 bytes. For each transfer one line says that it is granted, with its hops and its route, or\n"
    ++ ascii "refused, with the reason; a picture shows that there is no path where that is the reason. Totals come last.\n"
