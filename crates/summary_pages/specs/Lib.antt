pub mod SummaryPage
