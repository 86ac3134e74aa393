-- Document 01, the specification, a file for each of its sections, with what document 02's requests change and add in its place. The
-- refusals stand before the operations, which use them, and behind the calendar of F-1.
-- Behind them, of document 02: F-10, the operations by the record size that a caller names and the converter; F-5, the operation that enters
-- a finding; F-8, what two sheets say of every sheet between them; and a file for each request that is about no sheet.
--
-- Two numbers are parameters throughout, each put in at one place:
-- w, the pollutants that the format has room for (by the record size in Sizes; `pollutants` and `more_pollutants` in Sheet), and
-- q, the squarings of the logarithm (`squarings` in Logarithm).
pub mod Tools
pub mod Logarithm
pub mod Sheet
pub mod Plans
pub mod Series
pub mod Calendar
pub mod Refusals
pub mod Operations
pub mod Printed
pub mod Demands
pub mod Sizes
pub mod Converter
pub mod Findings
pub mod Ranges
pub mod DeclaredValue
